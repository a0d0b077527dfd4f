use Rattle.std.proofs.Common.{◌≡◌, ◌≤◌, ◌+◌, ◌*◌, drop}
use Rattle.listing_plan.specs.Held.{rows_length}
use Rattle.listing_plan.specs.Limits.{row_limit}
use Rattle.listing_plan.proofs.lengths.rows_len.Given as goal

-- the rows that were passed are counted, and those that are left complete them
abbrev pub invariant-loop-row : goal.invariant-loop-row
invariant-loop-row l = record {
  counted : l.len + rows_length l.properties (drop l.row-index l.rows) ≡ rows_length l.properties l.rows;
  short : l.len ≤ row_limit * l.row-index;
}
