use Rattle.std.proofs.Common.{◌≤◌, ◌++◌, ℕ, List, length, drop, Option}
use Rattle.item_model.specs.declared.item.Row.{Row}
use Rattle.row_sheets.specs.Sheets.{by_id, rows_in}
use Rattle.row_sheets.specs.Turns.{IsTurned}
use Rattle.row_sheets.proofs.turning.turn_all.Given as goal

abbrev pub invariant-loop-sheet : goal.invariant-loop-sheet
invariant-loop-sheet l = record {
  within : l.next ≤ length l.changes;
  turned : (wanted : ℕ → Option Row) (rest : List (ℕ × Row)) → IsTurned wanted (by_id (rows_in l.fn.turned.items)) l.changes (by_id (rows_in l.sheets) ++ rest)
      → IsTurned wanted (by_id (rows_in l.turned.items)) (drop l.next l.changes) (by_id (rows_in (drop l.sheet-index l.sheets)) ++ rest);
}
