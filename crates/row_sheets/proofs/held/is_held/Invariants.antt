use Rattle.std.proofs.Common.{◌≡◌, drop}
use Rattle.row_sheets.specs.Held.{is_held}
use Rattle.row_sheets.proofs.held.is_held.Given as goal

-- no row that was passed has the property
abbrev pub invariant-loop-row : goal.invariant-loop-row
invariant-loop-row l = is_held (drop l.row-index l.rows) l.property ≡ is_held l.rows l.property
