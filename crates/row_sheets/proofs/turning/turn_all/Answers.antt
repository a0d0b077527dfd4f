use Rattle.std.proofs.Common.{arith}
use Rattle.row_sheets.specs.Sheets.{rows_in}
use Rattle.row_sheets.proofs.StepFacts.{next_sheet}
use Rattle.row_sheets.proofs.turning.turn_all.Goals as goal

pub loop-sheet-preserved : goal.loop-sheet-preserved
loop-sheet-preserved c = record {
  within = omega (arith, c.in_ok-next.ensures.within, c.split_at.ensures.back_len);
  turned = λ wanted rest t.
      next_sheet wanted (rows_in c.loop-sheet.turned.items) (rows_in c.turn.new.turned.items) c.args.sheets.now c.args.changes.now c.split_at.result.1.now c.loop-sheet.next c.in_ok-next.field-0 c.loop-sheet.sheet-index c.sheet-item.result rest
      c.split_at.ensures.back c.sheet-item.is c.loop-sheet-test.true (c.in_ok-next.ensures.turned wanted) (c.loop-sheet.invariant.turned wanted rest t);
}
