use Rattle.std.proofs.Common.{◌∷◌, []}
use Rattle.records_import.specs.Writing.{HasCells}
use Rattle.records_import.proofs.writing.first_cells.Goals as goal

pub returns : goal.returns
returns c =
    let none : HasCells c.new-row.result [] = record { fields = c.new-row.ensures.fields; no_byte = c.new-row.ensures.partial } in
    c.in_ok-push_cell-3.ensures (c.args.op.now ∷ c.args.kind.now ∷ [])
    (c.in_ok-push_cell-2.ensures (c.args.op.now ∷ []) (c.in_ok-push_cell.ensures [] none))
