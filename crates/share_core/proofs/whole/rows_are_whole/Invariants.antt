use Rattle.std.proofs.Common.{drop}
use Rattle.std.specs.List.{AllByRecursion}
use Rattle.share_history.specs.Whole.{PutsWhole}
use Rattle.share_core.proofs.whole.rows_are_whole.Given as goal

-- with the edits to come, all are
abbrev pub invariant-loop-edit : goal.invariant-loop-edit
invariant-loop-edit l = AllByRecursion PutsWhole (drop l.edit-index l.edits) → AllByRecursion PutsWhole l.edits
