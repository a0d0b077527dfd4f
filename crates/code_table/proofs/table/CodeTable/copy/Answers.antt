use Rattle.std.proofs.Common.{take, ap, ◌∙◌}
use Rattle.code_table.specs.Rows.{is_coded}
use Rattle.code_table.proofs.Tellings.{new_at}
use Rattle.code_table.proofs.table.CodeTable.copy.Goals as goal

pub push-requires : goal.push-requires
push-requires c =
    let rows = c.rows-rows.result.now in
    let row = c.row-item.result in
    ap (λ r. is_coded r.code c.loop-row.table) c.in_ok-copy.ensures
    ∙ ap (is_coded row.code) c.loop-row.invariant
    ∙ ap (λ r. is_coded r.code (take c.loop-row.row-index rows)) c.row-item.is
    ∙ new_at rows c.loop-row.row-index _ c.rows-rows.ensures.differ c.loop-row-test.true
