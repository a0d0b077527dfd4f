use Rattle.std.proofs.Common.{◌≡◌, ◌++◌}
use Rattle.relayed_rows.specs.Changes.{dropped_ids}
use Rattle.relayed_rows.proofs.edits.dropped_ids.Given as goal

abbrev pub invariant-loop-id : goal.invariant-loop-id
invariant-loop-id l = l.ids.items ++ dropped_ids l.held.entries l.id-iterator ≡ dropped_ids l.held.entries l.changes.entries
