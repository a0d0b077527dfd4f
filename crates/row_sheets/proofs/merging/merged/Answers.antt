use Rattle.std.proofs.Common.{[], drop, sym, subst, arith}
use Rattle.std.proofs.lemmas.List.{at_drop_all}
use Rattle.row_sheets.specs.Sheets.{by_id}
use Rattle.row_sheets.specs.Changes.{changed}
use Rattle.row_sheets.specs.Turns.{IsTurned}
use Rattle.row_sheets.proofs.TurnFacts.{turned_start}
use Rattle.row_sheets.proofs.StepFacts.{next_row, rest_step}
use Rattle.row_sheets.proofs.merging.merged.Goals as goal

pub loop-row-init : goal.loop-row-init
loop-row-init c = record {
  within = omega arith;
  turned = λ are s.
      subst (λ rows. IsTurned (changed c.args.changes.now (by_id c.args.rows.now)) (by_id rows) c.args.changes.now (by_id c.args.rows.now)) (sym c.in_ok-merged.ensures.items)
      (turned_start c.args.changes.now (by_id c.args.rows.now) are s);
}

pub loop-row-preserved : goal.loop-row-preserved
loop-row-preserved c = record {
  within = omega (arith, c.in_ok-next.ensures.within, c.split_at.ensures.back_len);
  turned = λ are s.
      let wanted = changed c.args.changes.now (by_id c.args.rows.now) in
      next_row wanted c.loop-row.merged.items c.push_turned.new.merged.items c.args.rows.now c.args.changes.now c.split_at.result.1.now c.loop-row.next c.in_ok-next.field-0 c.loop-row.row-index c.row-item.result c.split_at.ensures.back c.row-item.is
      c.loop-row-test.true (c.in_ok-next.ensures.turned wanted) (c.loop-row.invariant.turned are s);
}

pub returns : goal.returns
returns c = λ are s.
    let wanted = changed c.args.changes.now (by_id c.args.rows.now) in
    rest_step wanted c.loop-row.merged.items c.push_new.new.merged.items c.split_at-2.result.1.now c.in_ok-push_new.ensures
    (subst (λ cs. IsTurned wanted (by_id c.loop-row.merged.items) cs []) (sym c.split_at-2.ensures.back)
    (subst (IsTurned wanted (by_id c.loop-row.merged.items) (drop c.loop-row.next c.args.changes.now)) (at_drop_all by_id c.args.rows.now c.loop-row.row-index c.loop-row-test.false) (c.loop-row.invariant.turned are s)))
