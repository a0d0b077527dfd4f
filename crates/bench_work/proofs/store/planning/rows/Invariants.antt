use Rattle.bench_work.proofs.FirstRows.{AreFirst}
use Rattle.bench_work.proofs.store.planning.rows.Given as goal

abbrev pub invariant-loop-id : goal.invariant-loop-id
invariant-loop-id l = AreFirst l.id l.rows.items
