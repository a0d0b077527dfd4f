-- When a mirror of a rehearsal requests, and how many of its requests get a delta.
use Rattle.std.specs.Prelude.{ℕ, ◌%◌, List, [], ◌∷◌, ◌==◌, Bool, ◌||◌, not, take, filter, count_by}
use Rattle.std.specs.List.{range_with_len}
use Rattle.item_model.specs.declared.changes.Edit.{Edit}
use Rattle.item_model.specs.declared.request.Target.TheVariants.{Items}
use Rattle.share_history.specs.Histories.{revision}
use Rattle.share_history.specs.Kept.{is_kept}

-- it requests after each batch whose number its period divides, and after the last
abbrev pub is_due : (period last n : ℕ) → Bool
is_due period last n = (n % period == 0) || (n == last)

-- the numbers of those among the first `count` batches after which it requests; they count from 1
abbrev pub asks : (period last count : ℕ) → List ℕ
asks period last count = filter (is_due period last) (range_with_len 1 count)

-- for each request, whether its base is in the delta window then; the base is the revision at the request before
abbrev pub kept_bases : (keep : ℕ) → List (List Edit) → (base : ℕ) → List ℕ → List Bool
kept_bases keep bs base [] = []
kept_bases keep bs base (n ∷ ns) = is_kept keep (take n bs) Items base ∷ kept_bases keep bs (revision (take n bs)) ns

-- how many requests get a delta, and how many a full listing, if the base of the first is 0
abbrev pub deltas : (keep : ℕ) → List (List Edit) → List ℕ → ℕ
deltas keep bs ns = count_by (λ b. b) (kept_bases keep bs 0 ns)

abbrev pub fulls : (keep : ℕ) → List (List Edit) → List ℕ → ℕ
fulls keep bs ns = count_by not (kept_bases keep bs 0 ns)
