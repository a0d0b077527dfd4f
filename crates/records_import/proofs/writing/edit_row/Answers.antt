use Rattle.std.proofs.Common.{◌<◌, ◌∷◌, decimal, length, map, take, arith}
use Rattle.std.proofs.lemmas.List.{map_more}
use Rattle.csv.specs.Records.{AllText}
use Rattle.item_model.specs.declared.property.Property.TheVariants.{Minm}
use Rattle.records_import.specs.Written.{written_cell, written_id, written_kind, written_op}
use Rattle.records_import.specs.declared.header.Column.TheVariants as holds
use Rattle.records_import.proofs.Texts.{text_behind}
use Rattle.records_import.proofs.writing.edit_row.Goals as goal

pub loop-column-init : goal.loop-column-init
unfolding AllText
loop-column-init c = record { cells = c.in_ok-row.ensures; utf8 = tt }

-- one more cell
pub loop-column-preserved : goal.loop-column-preserved
loop-column-preserved c =
    let edit = c.args.edit.now in
    let columns = c.args.columns.now in
    let i = c.loop-column.column-index in
    let inside : i < length columns = omega arith in
    let before = map (written_cell edit) (take i columns) in
    let told = c.in_ok-push_cell_of.ensures.cells (written_op edit ∷ written_kind edit ∷ decimal (written_id edit) ∷ before) c.loop-column.invariant.cells in
    record {
      cells = rw (map_more (written_cell edit) columns i (holds.Property Minm) inside) told;
      utf8 = rw (map_more (written_cell edit) columns i (holds.Property Minm) inside) (text_behind before _ c.loop-column.invariant.utf8 c.in_ok-push_cell_of.ensures.utf8);
    }
