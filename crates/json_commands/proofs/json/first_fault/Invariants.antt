use Rattle.std.proofs.Common.{length}
use Rattle.json_commands.specs.Fed.{HasFedAllBut}
use Rattle.json_commands.proofs.json.first_fault.Given as goal

abbrev pub invariant-loop-left : goal.invariant-loop-left
invariant-loop-left l = HasFedAllBut l.bytes l.left l.reader

abbrev pub decreases-loop-left : goal.decreases-loop-left
decreases-loop-left l = length l.left
