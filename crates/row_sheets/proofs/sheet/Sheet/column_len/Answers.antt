-- A sheet is seen as its rows and properties.
use Rattle.std.proofs.Common.{◌<◌, length, get_or, ap, ◌∙◌, arith}
use Rattle.std.proofs.lemmas.List.{get_or-map, get_or_read, length-map}
use Rattle.row_sheets.specs.Cells.{column_length}
use Rattle.row_sheets.proofs.sheet.Sheet.column_len.Goals as goal

pub returns : goal.returns
returns c = λ d.
    let rows = c.self.inside.rows.items in
    let ps = c.self.inside.properties.items in
    let lens = c.self.inside.column_lens.items in
    let i = c.args.index in
    let lt : i < length ps = omega (arith, c.requires, ap (λ sheet. length sheet.properties) c.self.view_is) in
    let among : i < length lens = omega (arith, lt, ap length c.self.invariant.measured, length-map ps (column_length rows)) in
    c.from.ensures ∙ get_or_read lens i c.index.result.now among c.index.ensures 0
    ∙ ap (λ ns. get_or ns i 0) c.self.invariant.measured ∙ get_or-map (column_length rows) ps i d 0 lt
    ∙ ap (λ sheet. column_length sheet.rows (get_or sheet.properties i d)) c.self.view_is
