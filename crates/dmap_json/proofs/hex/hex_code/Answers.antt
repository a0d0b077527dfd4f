-- A code written as its characters is never written as hex digits.
use Rattle.std.proofs.Common.{sym, ◌∙◌}
use Rattle.dmap_json.proofs.Hexed.{graphic_hex}
use Rattle.dmap_json.proofs.hex.hex_code.Goals as goal

pub returns-then-is_graphic : goal.returns-then-is_graphic
returns-then-is_graphic c = λ d h other same.
    graphic_hex c.args.digits.now c.in_ok-code.code d c.in_ok-code.ensures.0 h c.in_ok-code.ensures.1 same (sym c.is_graphic.ensures ∙ c.if-is_graphic.true) other
