use Rattle.std.proofs.Common.{◌≡◌, ◌++◌}
use Rattle.relayed_rows.specs.Differences.{new_rows}
use Rattle.relayed_rows.specs.Changes.{rows_in}
use Rattle.relayed_rows.proofs.edits.new_rows.Given as goal

abbrev pub invariant-loop-id : goal.invariant-loop-id
invariant-loop-id l = l.rows.items ++ new_rows l.held.entries (rows_in l.id-iterator) ≡ new_rows l.held.entries (rows_in l.changes.entries)
