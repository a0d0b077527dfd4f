use Rattle.std.proofs.Common.{◌≡◌, map, take}
use Rattle.records_import.specs.declared.header.Column.TheVariants as holds
use Rattle.records_import.proofs.writing.property_columns.Given as goal

-- the columns so far
abbrev pub invariant-loop-property : goal.invariant-loop-property
invariant-loop-property l = l.columns.items ≡ map (λ p. holds.Property p) (take l.property-index l.properties)
