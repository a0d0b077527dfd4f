use Rattle.std.proofs.Common.{◌≡◌, ◌<◌, ◌∷◌, ℕ, length}
use Rattle.std.specs.Prelude.{nat_le}
use Rattle.std.specs.List.{find}
use Rattle.playlist_store.specs.Changes.{found_in}
use Rattle.playlist_store.proofs.lists.step_back.Given as goal

abbrev pub invariant-loop-now : goal.invariant-loop-now
invariant-loop-now l = (v : ℕ) → v < l.revision → find (λ kept. nat_le kept.since v) (l.now ∷ l.older.items) ≡ found_in l.fn.list v

abbrev pub decreases-loop-now : goal.decreases-loop-now
decreases-loop-now l = length l.older.items
