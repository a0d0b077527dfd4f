-- How calls change known bytes and lists. No clause restricts unknown ones.
use Rattle.std.specs.Prelude.{◌≡◌, ℕ, ◌≤◌, List, [], length, take, ⊤, ◌↔◌, Some, None, Option}
use Rattle.std.specs.Io.KnownBytes.{Appends}
pub use Rattle.outside_disks.specs.Told.{Grows}

-- A read returns 0 exactly if no byte was left.
abbrev pub AnswersEnd : Option (List ℕ) → ℕ → Type 0
AnswersEnd None n = ⊤
AnswersEnd (Some left) n = (n ≡ 0) ↔ (left ≡ [])

-- A prefix of `bytes` was appended, perhaps empty or all.
abbrev pub AppendsPrefix : Option (List ℕ) → Option (List ℕ) → List ℕ → Type 0
AppendsPrefix before now bytes = (n : ℕ) × (n ≤ length bytes) × Appends before now (take n bytes)

-- The list is empty if it is known.
abbrev pub IsEmptyIfTold : {A : Type 0} → Option (List A) → Type 0
IsEmptyIfTold None = ⊤
IsEmptyIfTold (Some xs) = xs ≡ []

-- `begun` is empty if it is known. It is known if the list that takes it over later is known.
abbrev pub BeginsEmpty : {A B : Type 0} → Option (List A) → Option (List B) → Type 0
BeginsEmpty None begun = IsEmptyIfTold begun
BeginsEmpty (Some kept) begun = begun ≡ Some []

-- The same by a list that may be unknown; afterwards the result is unknown.
abbrev pub GrowsByTold : {A : Type 0} → Option (List A) → Option (List A) → Option (List A) → Type 0
GrowsByTold before now None = now ≡ None
GrowsByTold before now (Some more) = Grows before now more
