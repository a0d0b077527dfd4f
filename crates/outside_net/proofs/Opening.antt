-- Listeners and connections that enter and leave lists.
use Rattle.std.proofs.Common.{◌≡◌, ℕ, Bool, true, false, if◌then◌else◌, List, [], ◌∷◌, ◌++◌, zero, suc, map, take, drop, All, ap, refl}
use Rattle.std.proofs.lemmas.List.Elements.{All-push}
use Rattle.std.specs.Prelude.{Some}
use Rattle.outside_net.specs.Places.{OpensListeners}

-- the first `n` listeners have the first elements of the known list, which keeps the others
pub opens_first : {D : Type 0} (coming : D → List (List ℕ)) (n : ℕ) (listeners : List D)
    → OpensListeners (Some (map coming listeners)) (Some (map coming (drop n listeners))) (map (λ listener. Some (coming listener)) (take n listeners))
opens_first coming zero listeners = (refl, refl)
opens_first coming (suc n) [] = (refl, refl)
opens_first coming (suc n) (listener ∷ listeners) =
    let rest = opens_first coming n listeners in (ap (λ told. Some (coming listener) ∷ told) rest.0, rest.1)

-- what holds of all elements and of one more holds of all, whether or not that one was added
pub All-pushed : {X : Type 0} (P : X → Type 0) (pushed : Bool) (xs now : List X) (x : X) → now ≡ (if pushed then xs ++ x ∷ [] else xs)
    → All P xs → P x → All P now
All-pushed P true xs now x is all one = rw is (All-push P xs x all one)
All-pushed P false xs now x is all one = rw is all
