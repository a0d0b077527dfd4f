use Rattle.std.proofs.Common.{◌-◌, ◌∙◌, length, take, drop, sym, ap}
use Rattle.std.proofs.lemmas.List.{length-take-le}
use Rattle.row_sheets.specs.Cells.{joined, row_cells}
use Rattle.listing_plan.proofs.sheet_row.SheetRow.tags.Goals as goal

pub returns-clause-tags : goal.returns-clause-tags
returns-clause-tags c =
    let row = c.args.self.now in
    let run = c.args.run in
    c.row_tags.ensures.tags row.shared.now
    ∙ ap (λ r. joined (row_cells (take (run.to - run.from) (drop run.from row.sheet.now.properties)) r)) c.requires.row.there

pub returns-clause-len : goal.returns-clause-len
returns-clause-len c =
    let row = c.args.self.now in
    let run = c.args.run in
    sym (length-take-le c.row_tags.result.len c.row_tags.result.bytes.now c.row_tags.ensures.within)
    ∙ ap length (c.row_tags.ensures.tags row.shared.now)
    ∙ ap (λ r. length (joined (row_cells (take (run.to - run.from) (drop run.from row.sheet.now.properties)) r))) c.requires.row.there
