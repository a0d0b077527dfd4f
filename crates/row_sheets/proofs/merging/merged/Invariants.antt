use Rattle.std.proofs.Common.{◌≤◌, length, drop}
use Rattle.share_history.specs.Keyed.{IsAscending}
use Rattle.row_sheets.specs.Sheets.{by_id}
use Rattle.row_sheets.specs.Changes.{changed, AreChanges}
use Rattle.row_sheets.specs.Turns.{IsTurned}
use Rattle.row_sheets.proofs.merging.merged.Given as goal

abbrev pub invariant-loop-row : goal.invariant-loop-row
invariant-loop-row l = record {
  within : l.next ≤ length l.changes;
  turned : AreChanges l.changes → IsAscending (by_id l.rows) → IsTurned (changed l.changes (by_id l.rows)) (by_id l.merged.items) (drop l.next l.changes) (by_id (drop l.row-index l.rows));
}
