use Rattle.std.proofs.Common.{◌≤◌, ◌<◌, ℕ, Option, get_or, ap, arith}
use Rattle.item_model.specs.declared.item.Row.{Row}
use Rattle.row_sheets.proofs.PairFacts.{under_more, above_from}
use Rattle.row_sheets.proofs.merging.count_below.Goals as goal

pub loop-index-preserved : goal.loop-index-preserved
loop-index-preserved c =
    let change : ℕ × Option Row = c.index-changes-index.result in
    let below : (get_or c.args.changes.now c.loop-index.index change).0 < c.args.bound = omega (arith, c.if-bound-from.false, c.from.ensures, ap (λ (e : ℕ × Option Row). e.0) c.index-changes-index.is) in
    under_more c.args.bound c.args.changes.now c.loop-index.index change c.loop-index-test.true below c.loop-index.invariant

pub returns-then-bound-from-clause-above : goal.returns-then-bound-from-clause-above
returns-then-bound-from-clause-above c = λ ascend.
    let change : ℕ × Option Row = c.index-changes-index.result in
    let le : c.args.bound ≤ (get_or c.args.changes.now c.loop-index.index change).0 = omega (arith, c.if-bound-from.true, c.from.ensures, ap (λ (e : ℕ × Option Row). e.0) c.index-changes-index.is) in
    above_from c.args.bound c.args.changes.now c.loop-index.index change c.loop-index-test.true le ascend
