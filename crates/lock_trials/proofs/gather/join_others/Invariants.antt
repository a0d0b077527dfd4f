use Rattle.std.proofs.Common.{◌≡◌, ◌++◌, ◌∷◌}
use Rattle.std.specs.Prelude.{All}
use Rattle.std.specs.Vec.Iter.{into_iter_items}
use Rattle.share_lock.specs.Passes.{lock_id, known, IsReady}
use Rattle.lock_trials.specs.Gathered.{AreCovered, AreApart}
use Rattle.lock_trials.proofs.gather.join_others.Given as goal

abbrev pub invariant-loop-other : goal.invariant-loop-other
invariant-loop-other l = record {
  ready : IsReady (lock_id l.lock) l.pass;
  covered : AreCovered l.pass (l.fn.first ∷ l.yielded);
  apart : AreApart (l.fn.first ∷ l.yielded);
  items : l.yielded ++ into_iter_items l.other-iterator ≡ l.fn.others.items;
}
