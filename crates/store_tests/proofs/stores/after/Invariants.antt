use Rattle.std.proofs.Common.{◌≤◌}
use Rattle.share_listings.specs.Answers.{HaveEdits}
use Rattle.store_tests.proofs.stores.after.Given as goal

abbrev pub invariant-loop-records : goal.invariant-loop-records
invariant-loop-records l = record { have : HaveEdits l.most l.stores.items l.stores.lists; few : l.most ≤ 66 }
