use Rattle.std.proofs.Common.{◌≡◌, map, subst}
use Rattle.item_model.specs.Projection.{asked}
use Rattle.share_history.specs.Listings.{shown_rows}
use Rattle.row_sheets.specs.Sheets.{rows_in}
use Rattle.listing_plan.specs.Held.{plan_row, rows_held}
use Rattle.listing_plan.proofs.SheetFacts.{under_ids_held}
use Rattle.listing_plan.proofs.listed.own_ids.Goals as goal

pub returns : goal.returns
returns c = λ target meta.
    subst (λ rows. rows_held (asked meta) (map (plan_row target) rows) ≡ shown_rows target meta rows) c.sheets-sheets.ensures.rows
    (under_ids_held target meta (rows_in c.sheets-sheets.result.now))
