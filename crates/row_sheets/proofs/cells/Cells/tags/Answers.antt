-- Between two starts are the bytes of the cells between them.
use Rattle.std.proofs.Common.{◌-◌, ◌+◌, ◌*◌, length, take, get_or, ap, ◌∙◌}
use Rattle.row_sheets.proofs.CellFacts.{part_within, part_order, part_end, part_is, part_fits}
use Rattle.row_sheets.proofs.cells.Cells.tags.Goals as goal

pub part-requires-clause-within : goal.part-requires-clause-within
part-requires-clause-within c =
    part_within c.args.properties.now c.args.rows.now c.args.self.now.bytes.items c.args.self.now.starts.items c.requires.cells c.args.row c.args.from c.args.to c.requires.row c.requires.order c.requires.within

pub part-requires-clause-begin : goal.part-requires-clause-begin
part-requires-clause-begin c =
    part_order c.args.properties.now c.args.rows.now c.args.self.now.bytes.items c.args.self.now.starts.items c.requires.cells c.args.row c.args.from c.args.to c.requires.row c.requires.order c.requires.within

pub part-requires-clause-end : goal.part-requires-clause-end
part-requires-clause-end c =
    part_end c.args.properties.now c.args.rows.now c.args.self.now.bytes.items c.args.self.now.starts.items c.requires.cells c.args.row c.args.from c.args.to c.requires.row c.requires.order c.requires.within

pub returns-clause-within : goal.returns-clause-within
returns-clause-within c =
    part_fits c.args.properties.now c.args.rows.now c.args.self.now.bytes.items c.args.self.now.starts.items c.requires.cells c.args.row c.args.from c.args.to c.requires.row c.requires.order c.requires.within c.part.result.len c.part.result.bytes.now c.part.ensures.len c.part.ensures.bytes

pub returns-clause-tags : goal.returns-clause-tags
returns-clause-tags c = λ d.
    ap (λ n. take n c.part.result.bytes.now) c.part.ensures.len
    ∙ ap (take (get_or c.args.self.now.starts.items (c.args.row * length c.args.properties.now + c.args.to) 0 - get_or c.args.self.now.starts.items (c.args.row * length c.args.properties.now + c.args.from) 0)) c.part.ensures.bytes
    ∙ part_is c.args.properties.now c.args.rows.now c.args.self.now.bytes.items c.args.self.now.starts.items c.requires.cells c.args.row c.args.from c.args.to c.requires.row c.requires.order c.requires.within d
