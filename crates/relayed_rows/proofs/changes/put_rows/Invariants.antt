use Rattle.std.proofs.Common.{◌≡◌, fold, drop}
use Rattle.std.specs.List.{position_from}
use Rattle.relayed_rows.specs.Relays.{is_unread}
use Rattle.relayed_rows.specs.Changes.{with_row, rows_told}
use Rattle.relayed_rows.proofs.changes.put_rows.Given as goal

abbrev pub invariant-loop-index : goal.invariant-loop-index
invariant-loop-index l = record {
  put : fold with_row l.changes.entries (rows_told (drop l.index l.tags)) ≡ fold with_row l.fn.changes.entries (rows_told l.tags);
  read : position_from is_unread l.index (drop l.index l.tags) ≡ position_from is_unread 0 l.tags;
}
