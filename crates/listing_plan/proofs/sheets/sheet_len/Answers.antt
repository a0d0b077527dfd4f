use Rattle.std.proofs.Common.{◌+◌, ◌*◌, ◌∙◌, length, ap}
use Rattle.listing_plan.specs.Runs.{front_length}
use Rattle.listing_plan.proofs.SheetFacts.{sheet_counted}
use Rattle.listing_plan.proofs.sheets.sheet_len.Goals as goal

pub returns-clause-counted : goal.returns-clause-counted
returns-clause-counted c =
    let rows = c.args.sheet.now.rows in
    let target = c.args.target in
    ap (λ n. n + c.columns_len.result) (c.fronts_len.ensures.counted ∙ ap (λ rs. front_length target * length rs) c.rows-rows.ensures.rows)
    ∙ ap (λ n. front_length target * length rows + n) c.columns_len.ensures.counted ∙ sheet_counted target c.args.asked.now rows
