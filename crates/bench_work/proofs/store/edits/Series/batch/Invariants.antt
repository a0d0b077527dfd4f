use Rattle.item_model.specs.Valid.{AreValid}
use Rattle.bench_work.proofs.store.edits.Series.batch.Given as goal

abbrev pub invariant-loop : goal.invariant-loop
invariant-loop l = AreValid l.edits.items
