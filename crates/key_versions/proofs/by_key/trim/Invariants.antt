use Rattle.std.proofs.Common.{◌≡◌, ◌≤◌, ℕ, length}
use Rattle.key_versions.specs.Found.{value_in}
use Rattle.key_versions.specs.Joined.{apart_at}
use Rattle.key_versions.proofs.by_key.trim.Given as goal

abbrev pub invariant-loop : goal.invariant-loop
invariant-loop g l =
    (q base : ℕ) → l.low ≤ base → value_in (apart_at l.newest.entries l.older.entries q) base ≡ value_in (apart_at l.newest.entries l.fn.older.entries q) base

abbrev pub decreases-loop : goal.decreases-loop
decreases-loop g l = length (apart_at l.newest.entries l.older.entries l.key)
