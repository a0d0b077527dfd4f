-- All sheets before the last one, and then that one with the changes that are left.
use Rattle.std.proofs.Common.{sym, ap, subst}
use Rattle.row_sheets.specs.Sheets.{by_id, rows_on, rows_in}
use Rattle.row_sheets.specs.Changes.{changed}
use Rattle.row_sheets.specs.Turns.{IsTurned}
use Rattle.row_sheets.proofs.StepFacts.{sheets_start}
use Rattle.row_sheets.proofs.turning.turned.Goals as goal

pub returns : goal.returns
returns c =
    let changes = c.args.changes.now in
    let sheets = c.args.sheets.now in
    let last = c.in-Some.last.now in
    let wanted = changed changes (by_id (rows_in sheets)) in
    let turned = c.turn_all.new.turned.items in
    let start = sheets_start sheets c.in-Some.front.now last (rows_in c.in_ok-turned.turned.items) changes c.in-Some.ensures.cases.0 (ap rows_in c.in_ok-turned.ensures.items) c.requires.changes c.requires.rows in
    c.in_ok-turn_last.ensures wanted
    (subst (λ cs. IsTurned wanted (by_id (rows_in turned)) cs (by_id (rows_on last))) (sym c.split_at.ensures.back) (c.in_ok-next.ensures.turned wanted (by_id (rows_on last)) start))
