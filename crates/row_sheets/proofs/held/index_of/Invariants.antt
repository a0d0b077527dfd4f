use Rattle.std.proofs.Common.{◌≡◌, drop}
use Rattle.item_model.specs.Projection.{mentions}
use Rattle.row_sheets.proofs.held.index_of.Given as goal

-- what was passed is not the property
abbrev pub invariant-loop-index : goal.invariant-loop-index
invariant-loop-index l = mentions (drop l.index l.properties) l.property ≡ mentions l.properties l.property
