use Rattle.std.proofs.Common.{length, ap, arith}
use Rattle.std.proofs.lemmas.List.{at_drop_all}
use Rattle.row_sheets.specs.Sheets.{rows_in}
use Rattle.listing_plan.specs.Held.{sheet_bytes}
use Rattle.listing_plan.proofs.SheetFacts.{all_count, all_sheets, rows_left, rows_next, sheets_next_length}
use Rattle.listing_plan.proofs.sheets.sheets_len.Goals as goal

pub sheet_len-len-requires : goal.sheet_len-len-requires
sheet_len-len-requires c =
    let sheets = c.sheets-sheet-items.result.now in
    let i = c.loop-sheet.sheet-index in
    record {
      few = omega (arith, rows_next sheets i c.sheet-item.result c.deref.result.now c.loop-sheet-test.true c.sheet-item.is c.deref.ensures, rows_left sheets i, all_count sheets c.args.rows.now c.sheets-sheet-items.ensures.rows, c.requires.few);
      once = c.requires.once;
    }

pub loop-sheet-preserved : goal.loop-sheet-preserved
loop-sheet-preserved c =
    let sheets = c.sheets-sheet-items.result.now in
    let i = c.loop-sheet.sheet-index in
    record {
      counted = omega (arith, sheets_next_length c.args.target c.args.asked.now sheets i c.sheet-item.result c.deref.result.now c.loop-sheet-test.true c.sheet-item.is c.deref.ensures, c.loop-sheet.invariant.counted, c.sheet_len-len.ensures.counted);
      short = omega (arith, rows_next sheets i c.sheet-item.result c.deref.result.now c.loop-sheet-test.true c.sheet-item.is c.deref.ensures, c.loop-sheet.invariant.short, c.sheet_len-len.ensures.short);
    }

pub returns-clause-counted : goal.returns-clause-counted
returns-clause-counted c =
    let sheets = c.sheets-sheet-items.result.now in
    let none = at_drop_all (λ ss. length (sheet_bytes c.args.target c.args.asked.now (rows_in ss))) sheets c.loop-sheet.sheet-index c.loop-sheet-test.false in
    omega (arith, none, c.loop-sheet.invariant.counted, ap length (all_sheets c.args.target c.args.asked.now sheets c.args.rows.now c.sheets-sheet-items.ensures.rows))
