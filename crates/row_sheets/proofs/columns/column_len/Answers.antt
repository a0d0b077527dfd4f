use Rattle.std.proofs.Common.{◌+◌, [], get_or, ap, ◌∙◌}
use Rattle.std.proofs.lemmas.List.{take_all}
use Rattle.item_model.specs.declared.item.Row.{Row}
use Rattle.row_sheets.specs.Cells.{column_length}
use Rattle.row_sheets.proofs.CellFacts.{cell_length, column_more}
use Rattle.row_sheets.proofs.columns.column_len.Goals as goal

pub loop-row-preserved : goal.loop-row-preserved
loop-row-preserved c = λ d.
    let rows = c.args.rows.now in
    let ps = c.args.properties.now in
    let i = c.loop-row.row in
    let none : Row = record { id = 0; item = [] } in
    let len = c.tags-tags.result.len in
    column_more rows (get_or ps c.args.index d) i len c.in_ok-len.len none c.loop-row-test.true
    (cell_length ps c.args.index len c.tags-tags.result.bytes.now (get_or rows i none) d c.requires.index c.tags-tags.ensures.within (c.tags-tags.ensures.tags none))
    (c.in_ok-len.ensures ∙ ap (λ n. n + len) (c.loop-row.invariant d))

pub returns : goal.returns
returns c = λ d.
    c.loop-row.invariant d
    ∙ ap (λ rows. column_length rows (get_or c.args.properties.now c.args.index d)) (take_all c.loop-row.row c.args.rows.now c.loop-row-test.false)
