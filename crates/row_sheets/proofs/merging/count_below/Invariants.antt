use Rattle.std.proofs.Common.{take}
use Rattle.row_sheets.specs.Turns.{AreUnder}
use Rattle.row_sheets.proofs.merging.count_below.Given as goal

-- each change that was passed is of an id below the bound
abbrev pub invariant-loop-index : goal.invariant-loop-index
invariant-loop-index l = AreUnder l.bound (take l.index l.changes)
