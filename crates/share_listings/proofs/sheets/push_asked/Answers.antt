use Rattle.std.proofs.Common.{◌++◌, option_copied, arith, rules}
use Rattle.listing_plan.specs.Plans.{keyed}
use Rattle.row_sheets.specs.Sheets.{by_id}
use Rattle.share_listings.proofs.SheetFacts.{selected_by}
use Rattle.share_listings.proofs.SheetRowFacts.{selected_row_at}
use Rattle.share_listings.proofs.sheets.push_asked.Goals as goal

pub loop-index-preserved : goal.loop-index-preserved
loop-index-preserved g c =
    let query = option_copied c.args.query in
    record {
      rows =
          selected_row_at c.args.sheet.now c.loop-index.index query (keyed c.loop-index.found.items) (keyed c.push_if_asked.new.found.items)
          (keyed c.args.found.now.items ++ selected_by query (by_id c.args.sheet.now.rows)) (search rules) c.in_ok-push_if_asked.ensures.rows c.loop-index.invariant.rows;
      members = λ all. c.push_if_asked.ensures.members (c.loop-index.invariant.members all);
      cost = omega (arith, c.in_ok-push_if_asked.ensures.cost, c.loop-index.invariant.cost);
    }
