-- No keys are deleted, and nothing is written.
use Rattle.std.proofs.Common.{ℕ, List, [], Option, arith}
use Rattle.std.specs.List.Sorted.{IsStrictlySortedBy}
use Rattle.std.proofs.KnownBytes.{Appends-nil}
use Rattle.outside_net.specs.Told.{AppendsPrefix}
use Rattle.listing_plan.specs.Plans.{AreGone}

-- no keys ascend
pub none_gone : AreGone []
unfolding IsStrictlySortedBy
none_gone = record { ascending = tt; few = omega arith }

-- where nothing was written, none of the bytes were
pub nothing_appended : (told : Option (List ℕ)) (bytes : List ℕ) → AppendsPrefix told told bytes
nothing_appended told bytes = (0, omega arith, Appends-nil told)
