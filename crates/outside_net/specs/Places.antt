-- How the calls of listeners and networks change their known lists.
use Rattle.std.specs.Prelude.{◌≡◌, ℕ, Bool, nat_lt, List, [], ◌∷◌, map, length, take, drop, ⊤, Some, None, Option, option_map}
pub use Rattle.outside_disks.specs.Contents.{Contents, OpensFile, ClosesFile}

-- A connection that was returned: the bytes written to it, and whether an error was counted on it.
abbrev pub Returned : Type 0
Returned = List ℕ × Bool

-- The element that a connection adds to a list when it is returned, if its bytes are known.
abbrev pub returned : Option (List ℕ) → ℕ → Option (List Returned)
returned taken faults = option_map (λ bytes. (bytes, nat_lt 0 faults) ∷ []) taken

-- A connection was accepted: the first of those to come, with all its input left and nothing written. There is none
-- exactly if none was to come.
abbrev pub Accepts : {L : Type 0} → (L → Option (List ℕ)) → (L → Option (List ℕ)) → Option (List (List ℕ)) → Option (List (List ℕ)) → Option L → Type 0
Accepts left taken None now link = ⊤
Accepts left taken (Some coming) None link = ⊥
Accepts left taken (Some []) (Some now) None = now ≡ []
Accepts left taken (Some []) (Some now) (Some link) = ⊥
Accepts left taken (Some (first ∷ rest)) (Some now) None = ⊥
Accepts left taken (Some (first ∷ rest)) (Some now) (Some link) =
    (now ≡ rest) × (left link ≡ Some first) × (taken link ≡ Some [])

-- Listeners were opened. Each has the connections of the next element, and these elements leave the list.
abbrev pub OpensListeners : Option (List (List (List ℕ))) → Option (List (List (List ℕ))) → List (Option (List (List ℕ))) → Type 0
OpensListeners None now coming = ⊤
OpensListeners (Some links) now coming =
    (coming ≡ map (λ inputs. Some inputs) (take (length coming) links)) × (now ≡ Some (drop (length coming) links))
