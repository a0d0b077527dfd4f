-- What reads and replies do to the bytes that a peer owes.
use Rattle.std.proofs.Common.{◌≡◌, ℕ, List, [], ◌++◌, take, drop, Option, None, Some, refl, sym, ap, ◌∙◌, append_assoc, append-nil, take-append-drop}
use Rattle.std.specs.Io.KnownBytes.{Consumes, IsAtEnd, prepend_known}

-- the first of the bytes read ahead are used
pub front_used : (left : Option (List ℕ)) (unused : List ℕ) (n : ℕ) → Consumes (prepend_known unused left) (prepend_known (drop n unused) left) (take n unused)
front_used None unused n = tt
front_used (Some y) unused n = ap (λ bytes. bytes ++ y) (sym (take-append-drop n unused)) ∙ append_assoc (take n unused) (drop n unused) y

-- what was kept and read ahead begins what is owed
pub owed_front : (bytes : List ℕ) (left : Option (List ℕ)) (kept unused : List ℕ) → Consumes (Some bytes) (prepend_known unused left) kept
    → (more : List ℕ) × (left ≡ Some more) × (bytes ≡ (kept ++ unused) ++ more)
owed_front bytes None kept unused h = absurd h
owed_front bytes (Some more) kept unused h = (more, refl, h ∙ sym (append_assoc kept unused more))

-- at the end nothing else is owed
pub owed_all : (bytes : List ℕ) (left : Option (List ℕ)) (kept unused : List ℕ) → unused ≡ [] → IsAtEnd left → Consumes (Some bytes) (prepend_known unused left) kept
    → bytes ≡ kept
owed_all bytes None kept unused none end h = absurd h
owed_all bytes (Some more) kept unused none end h =
    h ∙ ap (λ (front : List ℕ). kept ++ (front ++ more)) none ∙ ap (λ (rest : List ℕ). kept ++ rest) end ∙ append-nil kept
