-- Eight digits are those of four bytes.
use Rattle.std.proofs.Common.{◌≡◌, length, ◌∙◌, arith}
use Rattle.dmap_json.proofs.Hexed.{eight, four_again}
use Rattle.dmap_json.proofs.hex.four_bytes.Goals as goal

pub returns-in_ok-byte_from-in-len8-4 : goal.returns-in_ok-byte_from-in-len8-4
returns-in_ok-byte_from-in-len8-4 c =
    let first = c.in_ok-byte_from-in-len8.ensures in
    let second = c.in_ok-byte_from-in-len8-2.ensures in
    let third = c.in_ok-byte_from-in-len8-3.ensures in
    let fourth = c.in_ok-byte_from-in-len8-4.ensures in
    let digits = c.args.digits.now in
    let count : length digits ≡ 8 = omega (arith, c.in-len8.len_at_least, c.in-len8.len_below) in (
      (first.0, (second.0, (third.0, fourth.0))),
      eight digits count ∙ four_again _ _ _ _ _ _ _ _ _ _ _ _ first.1 second.1 third.1 fourth.1,
    )
