use Rattle.std.proofs.Common.{◌++◌, ap, ◌∙◌, rules}
use Rattle.listing_plan.specs.Plans.{keyed}
use Rattle.row_sheets.specs.Sheets.{by_id}
use Rattle.share_listings.proofs.SheetFacts.{row_more, rows_all, by_id-within}
use Rattle.share_listings.proofs.sheets.push_within.Goals as goal

pub loop-row-preserved : goal.loop-row-preserved
loop-row-preserved c = record {
  rows =
      row_more c.of-part.result.now c.loop-row.row-index c.row-item.result (keyed c.loop-row.found.items) (keyed c.push.new.found.items)
      (keyed c.args.found.now.items ++ by_id c.of-part.result.now) (search rules) c.row-item.is c.in_ok-push.ensures.rows c.loop-row.invariant.rows;
  members = search rules;
}

pub returns-clause-rows : goal.returns-clause-rows
returns-clause-rows c =
    rows_all c.of-part.result.now c.loop-row.row-index (keyed c.loop-row.found.items) (keyed c.args.found.now.items ++ by_id c.of-part.result.now) c.loop-row-test.false
    c.loop-row.invariant.rows
    ∙ ap (λ rows. keyed c.args.found.now.items ++ rows) (by_id-within c.args.window.from c.args.window.to c.args.rows.now c.of-part.result.now c.of-part.ensures)
