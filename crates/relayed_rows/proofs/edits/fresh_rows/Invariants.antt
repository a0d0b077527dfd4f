use Rattle.std.proofs.Common.{◌≡◌, ◌++◌, drop}
use Rattle.relayed_rows.specs.Changes.{fresh_rows}
use Rattle.relayed_rows.proofs.edits.fresh_rows.Given as goal

abbrev pub invariant-loop-id : goal.invariant-loop-id
invariant-loop-id l = l.fresh.items ++ fresh_rows l.held.entries (drop l.id-index l.rows) ≡ fresh_rows l.held.entries l.rows
