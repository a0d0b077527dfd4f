-- A value is the only one of its kind, so no other fits.
use Rattle.std.proofs.Common.{sym, ap, ◌∙◌}
use Rattle.std.proofs.lemmas.Bool.{true≢false}
use Rattle.serde_json.specs.View.{view}
use Rattle.dmap_tags.specs.Seen.{tree_with}
use Rattle.dmap_tags.specs.declared.tree.Value.{Value}
use Rattle.code_table.specs.Fits.{fits}
use Rattle.dmap_json.specs.Parts.{IsValueOf}
use Rattle.dmap_json.proofs.Heads.{one_value}
use Rattle.dmap_json.proofs.head.leaf_head.Goals as goal

pub returns-then-not-fits : goal.returns-then-not-fits
returns-then-not-fits c = λ v h f.
    let d = view c.args.value.now in
    let held : IsValueOf c.args.kind d c.in-Some.value = (rw c.in-Some.is at c.in_ok-value.ensures) in
    true≢false (sym f ∙ ap (λ (x : Value). fits c.args.table.now c.args.parent (tree_with c.args.code x)) (one_value c.args.kind d v c.in-Some.value h held)
    ∙ sym c.fits.ensures ∙ c.if-not-fits.true)
