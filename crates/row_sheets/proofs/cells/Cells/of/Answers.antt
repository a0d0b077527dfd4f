use Rattle.std.proofs.Common.{◌≡◌, ◌++◌, All, take, get_or, map, ap, subst, ◌∙◌}
use Rattle.item_model.specs.declared.item.Row.{Row}
use Rattle.row_sheets.specs.Cells.{cell, cells_of, AreCells, HasValue}
use Rattle.row_sheets.proofs.CellFacts.{each_more, rows_more}
use Rattle.row_sheets.proofs.cells.Cells.of.Goals as goal

pub loop-row-preserved : goal.loop-row-preserved
loop-row-preserved c =
    let rows = c.args.rows.now in
    let ps = c.args.properties.now in
    let i = c.loop-row.row-index in
    let row : Row = c.row-item.result in
    let item : c.row.result.now.item ≡ (get_or rows i row).item = ap (λ (r : Row). r.item) (c.row.ensures ∙ c.row-item.is) in
    record {
      cells =
          subst (λ cells. AreCells cells c.push_row.new.self.bytes.items c.push_row.new.self.starts.items) (ap (λ it. cells_of ps (take i rows) ++ map (cell it) ps) item ∙ rows_more ps rows i row c.loop-row-test.true)
          (c.in_ok-push_row.ensures.cells (cells_of ps (take i rows)) c.loop-row.invariant.cells);
      values = each_more (λ r. All (HasValue r.item) ps) rows i row c.loop-row-test.true c.loop-row.invariant.values (subst (λ it. All (HasValue it) ps) item c.in_ok-push_row.ensures.values);
    }
