use Rattle.std.proofs.Common.{◌+◌, sym, subst}
use Rattle.bench_work.proofs.FirstRows.{AreFirst, no_rows, row_more}
use Rattle.bench_work.proofs.store.planning.rows.Goals as goal

pub loop-id-init : goal.loop-id-init
loop-id-init c = subst (AreFirst 0) (sym c.new-rows.ensures.items) no_rows

pub loop-id-preserved : goal.loop-id-preserved
loop-id-preserved c =
    subst (AreFirst (c.loop-id.id + 1)) (sym c.in_ok-push.ensures.items)
    (row_more c.loop-id.id c.loop-id.rows.items c.in_ok-row.field-0 c.in_ok-row.ensures.alone c.in_ok-row.ensures.id c.loop-id.invariant)
