-- The text between the quotes.
use Rattle.std.proofs.Common.{ap, sym, ◌∙◌, Some}
use Rattle.std.proofs.lemmas.Bool.{true≢false}
use Rattle.std.specs.Str.{is_utf8}
use Rattle.dmap_tags.specs.declared.tree.Value.TheVariants.{Text}
use Rattle.dmap_show.proofs.Remaining.{utf8_bytes}
use Rattle.dmap_show.proofs.spelled.read_text.Goals as goal

pub returns-in-Ok-clause-only : goal.returns-in-Ok-clause-only
returns-in-Ok-clause-only c = λ v (bytes, (utf8, (e, f))).
    let read = c.in_ok-unshown.ensures bytes (utf8_bytes bytes utf8) (c.within.ensures 34 34 _ e) in
    ap Some (ap Text (c.in-Ok.ensures.0 ∙ read) ∙ sym f)

pub returns-clause-only : goal.returns-clause-only
returns-clause-only c = λ v (bytes, (utf8, (e, f))).
    let read = c.in_ok-unshown.ensures bytes (utf8_bytes bytes utf8) (c.within.ensures 34 34 _ e) in
    absurd (true≢false (sym utf8 ∙ ap is_utf8 (sym read) ∙ c.in-Err.ensures.1))
