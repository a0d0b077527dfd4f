-- Digits that do not begin with those of a byte are not those of any bytes.
use Rattle.std.proofs.Common.{rules, ◌<◌, length, sym, ◌∙◌, arith}
use Rattle.std.proofs.lemmas.Bool.Decides.{nat_tests}
use Rattle.dmap_json.proofs.Hexed.{no_bytes}
use Rattle.dmap_json.proofs.hex.bytes_from.Goals as goal

pub returns-in_default : goal.returns-in_default
returns-in_default c = λ bytes h e.
    let some : 0 < length c.loop-left.left.now = first_of (search rules, omega (arith, c.loop-left-test.true, c.is_empty.ensures), grind (arith, nat_tests)) in
    no_bytes c.loop-left.bytes.items c.loop-left.left.now bytes some (λ b more small s. c.in_default.ensures b more small s) h (sym c.loop-left.invariant.digits ∙ e)
