use Rattle.std.proofs.Common.{length, drop, ap, length-append, arith, rules}
use Rattle.listing_plan.specs.Runs.{runs_bytes, row_bytes}
use Rattle.listing_plan.proofs.SheetFacts.{left_length}
use Rattle.listing_plan.proofs.sheet_row.SheetRow.put_shown.Goals as goal

pub put_first-requires : goal.put_first-requires
put_first-requires g c =
    let row = c.args.self.now in
    let ps = row.sheet.now.properties in
    let rest = runs_bytes ps row.shared.now (drop c.loop-run.run-index row.runs.now) in
    (search rules, (c.tags-tags.ensures.within, omega (arith, left_length ps row.shared.now row.runs.now c.loop-run.run-index (record { from = 0; to = 0 }) c.loop-run-test.true, ap length c.loop-run.invariant, length-append c.loop-run.page rest, length-append c.args.page.now (row_bytes row), c.requires.room, c.tags-tags.ensures.len)))
