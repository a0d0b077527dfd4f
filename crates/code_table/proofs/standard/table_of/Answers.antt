use Rattle.std.proofs.Common.{slice_index_or, ap, ◌∙◌}
use Rattle.code_table.specs.Rows.{row_of, is_coded}
use Rattle.code_table.proofs.Tellings.{new_made_at}
use Rattle.code_table.proofs.standard.table_of.Goals as goal

pub push-requires : goal.push-requires
push-requires c =
    let i = c.loop-row.row-index in
    let item = slice_index_or c.args.rows.now i _ in
    ap (is_coded (row_of item).code) c.loop-row.invariant
    ∙ new_made_at row_of c.args.rows.now i _ c.requires c.loop-row-test.true
