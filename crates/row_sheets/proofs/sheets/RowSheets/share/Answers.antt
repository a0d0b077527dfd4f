-- The same rows ascend, and are as many.
use Rattle.std.proofs.Common.{◌≡◌, length, sym, ap, subst, ◌∙◌}
use Rattle.std.proofs.lemmas.List.{take_all}
use Rattle.share_history.specs.Keyed.{IsAscending}
use Rattle.row_sheets.specs.Sheets.{by_id, rows_in}
use Rattle.row_sheets.proofs.sheets.RowSheets.share.Goals as goal

pub invariant_of-result : goal.invariant_of-result
invariant_of-result c =
    let same : rows_in c.loop-sheet.sheets.items ≡ rows_in c.self.inside.sheets.items =
    c.loop-sheet.invariant ∙ ap rows_in (take_all c.loop-sheet.sheet-index c.deref-sheet-items.result.now c.loop-sheet-test.false ∙ c.deref-sheet-items.ensures.value) in
    record {
      ascending = subst (λ rows. IsAscending (by_id rows)) (sym same) c.self.invariant.ascending;
      counted = c.self.invariant.counted ∙ ap length (sym same);
    }
