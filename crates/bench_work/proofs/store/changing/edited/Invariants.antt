use Rattle.share_listings.specs.Answers.{HaveEdits}
use Rattle.bench_work.proofs.store.changing.edited.Given as goal

abbrev pub invariant-loop : goal.invariant-loop
invariant-loop g l = HaveEdits l.stores.edits l.stores.items l.stores.lists
