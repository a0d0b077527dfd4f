use Rattle.std.proofs.Common.{◌<◌, ◌∷◌, codes, length, map, take, arith}
use Rattle.std.proofs.lemmas.List.{map_more}
use Rattle.item_model.specs.declared.property.Property.TheVariants.{Minm}
use Rattle.records_import.specs.Written.{column_name}
use Rattle.records_import.specs.declared.header.Column.TheVariants as holds
use Rattle.records_import.proofs.writing.header_row.Goals as goal

-- one more name
pub loop-column-preserved : goal.loop-column-preserved
loop-column-preserved c =
    let columns = c.args.columns.now in
    let i = c.loop-column.column-index in
    let inside : i < length columns = omega arith in
    let told = rw c.name_of.ensures at (c.in_ok-push_cell.ensures (codes "op" ∷ codes "kind" ∷ codes "id" ∷ map column_name (take i columns)) c.loop-column.invariant) in
    rw (map_more column_name columns i (holds.Property Minm) inside) told
