-- Short lists of rows and of keys.
use Rattle.std.proofs.Common.{◌≡◌, ℕ, zero, suc, [], ◌∷◌, All, arith}
use Rattle.std.specs.List.Sorted.{IsStrictlySortedBy}
use Rattle.item_model.specs.declared.request.Target.{Target}
use Rattle.share_history.specs.Listings.{member_of}
use Rattle.listing_plan.specs.declared.row.PlanRow.{PlanRow}
use Rattle.listing_plan.specs.Plans.{AreRowsOf, AreGone, key_of}

pub no_rows : (target : Target) → AreRowsOf target []
unfolding IsStrictlySortedBy
no_rows target = record { members = λ k d lt. absurd (omega arith); ascending = tt; few = omega arith }

only : (target : Target) (row : PlanRow) → row.member ≡ member_of target (key_of row) → All (λ row. row.member ≡ member_of target (key_of row)) (row ∷ [])
only target row h zero d lt = h
only target row h (suc k) d lt = absurd (omega arith)

pub one_row : (target : Target) (row : PlanRow) → row.member ≡ member_of target (key_of row) → AreRowsOf target (row ∷ [])
unfolding IsStrictlySortedBy
one_row target row h = record { members = only target row h; ascending = (tt, tt); few = omega arith }

pub one_gone : (key : ℕ) → AreGone (key ∷ [])
unfolding IsStrictlySortedBy
one_gone key = record { ascending = (tt, tt); few = omega arith }
