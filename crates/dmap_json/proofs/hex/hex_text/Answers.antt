-- Hex digits are UTF-8.
use Rattle.std.proofs.Common.{◌≡◌, ◌++◌, [], ℕ, List, drop, flat_map, sym, ap, ◌∙◌, arith, append-nil}
use Rattle.std.proofs.lemmas.Bool.{true≢false}
use Rattle.std.proofs.lemmas.List.{drop_all}
use Rattle.std.specs.Str.{is_utf8}
use Rattle.dmap_show.specs.Shown.{hex}
use Rattle.dmap_json.proofs.Hexed.{hex_utf8, bytes_held}
use Rattle.dmap_json.proofs.hex.hex_text.Goals as goal

pub unreachable-requires : goal.unreachable-requires
unreachable-requires c =
    let bytes = c.args.bytes.now in
    let digits = c.loop-byte.digits.items in
    let nothing : drop c.loop-byte.byte-index bytes ≡ [] = drop_all c.loop-byte.byte-index bytes (omega (arith, c.loop-byte-test.false)) in
    let is : digits ≡ flat_map hex bytes = sym (append-nil digits) ∙ ap (λ (xs : List ℕ). digits ++ flat_map hex xs) (sym nothing) ∙ c.loop-byte.invariant in
    true≢false (sym (ap is_utf8 is ∙ hex_utf8 bytes (bytes_held bytes (λ i. (c.type_inv.bytes i).fits))) ∙ c.in-Err.ensures.1)

pub returns-clause-held : goal.returns-clause-held
returns-clause-held c = bytes_held c.args.bytes.now (λ i. (c.type_inv.bytes i).fits)
