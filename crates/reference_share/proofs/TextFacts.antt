-- Texts that a loop puts into a set one after the other.
use Rattle.std.proofs.Common.{◌≡◌, ℕ, ◌+◌, ◌<◌, Bool, List, [], ◌∷◌, length, get_or, drop, map, fold, filter, sym, ap, ◌∙◌}
use Rattle.share_history.proofs.EditFacts.{drop_more}
use Rattle.share_history.proofs.TextFacts.{filtered_cons}

pub texts_left : {A : Type 0} (put : List (List ℕ) → List ℕ → List (List ℕ)) (p : List ℕ → Bool) (text : A → List ℕ) (xs : List A) (i : ℕ) (x : A) (set : List (List ℕ)) → i < length xs → x ≡ get_or xs i x
    → fold put (fold put set (filter p (text x ∷ []))) (filter p (map text (drop (i + 1) xs))) ≡ fold put set (filter p (map text (drop i xs)))
texts_left put p text xs i x set lt is =
    filtered_cons put p set (text x) (map text (drop (i + 1) xs)) ∙ ap (λ ys. fold put set (filter p (map text ys))) (sym (drop_more xs i x lt is))
