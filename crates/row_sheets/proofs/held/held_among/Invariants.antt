use Rattle.std.proofs.Common.{◌≡◌, take}
use Rattle.std.specs.List.{filter}
use Rattle.row_sheets.specs.Held.{is_held}
use Rattle.row_sheets.proofs.held.held_among.Given as goal

abbrev pub invariant-loop-property : goal.invariant-loop-property
invariant-loop-property l = l.held.items ≡ filter (is_held l.rows) (take l.property-index l.properties)
