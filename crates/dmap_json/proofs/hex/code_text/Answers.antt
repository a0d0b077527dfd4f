-- The text of a code is UTF-8.
use Rattle.std.proofs.Common.{◌≡◌, ◌++◌, [], ℕ, List, sym, ap, ◌∙◌, rules}
use Rattle.std.proofs.lemmas.Bool.{true≢false}
use Rattle.std.specs.Str.{is_utf8}
use Rattle.dmap_show.specs.Readable.{IsCode}
use Rattle.dmap_show.specs.Shown.{shown_code}
use Rattle.dmap_json.proofs.Hexed.{code_utf8}
use Rattle.dmap_json.proofs.hex.code_text.Goals as goal

pub unreachable-requires : goal.unreachable-requires
unreachable-requires c =
    let bytes : IsCode c.args.code = search rules in
    let empty : c.in_ok-shown.shown.items ≡ [] = c.in_ok-shown.ensures.items in
    let is : c.show_code.new.out.items ≡ shown_code c.args.code = c.in_ok-show_code.ensures.shown ∙ ap (λ (xs : List ℕ). xs ++ shown_code c.args.code) empty in
    true≢false (sym (ap is_utf8 is ∙ code_utf8 c.args.code bytes) ∙ c.in-Err.ensures.1)
