-- A text of four characters is a code's if all are from ! to ~.
use Rattle.std.proofs.Common.{◌≡◌, length, sym, ◌∙◌, arith}
use Rattle.dmap_tags.specs.Codes.{code_of, four_again}
use Rattle.dmap_json.proofs.Hexed.{graphic_case}
use Rattle.dmap_json.proofs.hex.code_from.Goals as goal

pub returns-in-len4 : goal.returns-in-len4
returns-in-len4 c =
    let bytes = c.as_bytes.result.now in
    let four : length bytes ≡ 4 = omega (arith, c.in-len4.len_at_least, c.in-len4.len_below) in
    graphic_case c.args.text.now (code_of bytes) c.graphic_code.result c.graphic_code.ensures.held (sym c.as_bytes.ensures.value ∙ sym (four_again bytes four)) c.graphic_code.ensures.shown
