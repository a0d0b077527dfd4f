use Rattle.std.proofs.Common.{arith}
use Rattle.outside_net.proofs.Moving.{ConsumesUpTo-next}
use Rattle.outside_net.proofs.reading.read_within.Goals as goal

-- what was read before and in this read was read
pub returns-then-n-most-clause-part : goal.returns-then-n-most-clause-part
returns-then-n-most-clause-part g c =
    ConsumesUpTo-next _ _ _ _ _ _ _ (omega (arith, c.loop-all.invariant.within)) (omega (arith, c.in_ok-n.ensures.within))
    c.loop-all.invariant.read c.in_ok-n.ensures.moved.0

pub returns-in_err-extend_from_slice-clause-part : goal.returns-in_err-extend_from_slice-clause-part
returns-in_err-extend_from_slice-clause-part g c =
    ConsumesUpTo-next _ _ _ _ _ _ _ (omega (arith, c.loop-all.invariant.within)) (omega (arith, c.in_ok-n.ensures.within))
    c.loop-all.invariant.read c.in_ok-n.ensures.moved.0
