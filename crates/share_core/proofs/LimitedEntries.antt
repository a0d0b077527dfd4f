-- Each entry below the entry limit is a login or a batch.
use Rattle.std.proofs.Common.{◌≡◌, ℕ, ◌+◌, List, [], ◌∷◌, length, cond, refl, arith}
use Rattle.std.specs.Prelude.{count_by}
use Rattle.std.proofs.lemmas.List.Sums.{sum_by-cons}
use Rattle.item_model.specs.declared.changes.Entry.{Entry}
use Rattle.item_model.specs.declared.changes.Entry.TheVariants.{Edits, Login, Logout, Stop}
use Rattle.share_history.specs.Histories.{batches}
use Rattle.share_history.specs.Limits.{is_limited}
use Rattle.share_history.specs.Sessions.{is_login}

pub limited_are : (h : List Entry) → count_by is_limited h ≡ count_by is_login h + length (batches h)
limited_are [] = refl
limited_are (Edits by batch ∷ h) = omega (arith, limited_are h, sum_by-cons (λ x. cond (is_login x) 1 0) (Edits by batch) h, sum_by-cons (λ x. cond (is_limited x) 1 0) (Edits by batch) h)
limited_are (Login by id ∷ h) = omega (arith, limited_are h, sum_by-cons (λ x. cond (is_login x) 1 0) (Login by id) h, sum_by-cons (λ x. cond (is_limited x) 1 0) (Login by id) h)
limited_are (Logout by id ∷ h) = omega (arith, limited_are h, sum_by-cons (λ x. cond (is_login x) 1 0) (Logout by id) h, sum_by-cons (λ x. cond (is_limited x) 1 0) (Logout by id) h)
limited_are (Stop by ∷ h) = omega (arith, limited_are h, sum_by-cons (λ x. cond (is_login x) 1 0) (Stop by) h, sum_by-cons (λ x. cond (is_limited x) 1 0) (Stop by) h)
