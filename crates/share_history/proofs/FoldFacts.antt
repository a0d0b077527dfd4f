-- What a loop has gathered, and what is left of its list.
use Rattle.std.proofs.Common.{◌≡◌, ℕ, ◌+◌, ◌<◌, map, Option, Some, None, append-nil, append_assoc, List, [], ◌∷◌, ◌++◌, length, get_or, drop, fold, flat_map, refl, sym, ap, ◌∙◌}
use Rattle.std.specs.Option.{option_to_list}
use Rattle.std.specs.List.{cons_option}
use Rattle.item_model.specs.declared.changes.Edit.{Edit}
use Rattle.share_history.proofs.EditFacts.{drop_more}

pub fold-append : {A B : Type 0} (f : B → A → B) (b : B) (xs ys : List A) → fold f b (xs ++ ys) ≡ fold f (fold f b xs) ys
fold-append f b [] ys = refl
fold-append f b (x ∷ xs) ys = fold-append f (f b x) xs ys

-- the keys of the edits that are left: those of the first come before the others
pub folded_left : (put : List ℕ → ℕ → List ℕ) (keys : Edit → List ℕ) (es : List Edit) (i : ℕ) (e : Edit) (set : List ℕ) → i < length es → e ≡ get_or es i e
    → fold put (fold put set (keys e)) (flat_map keys (drop (i + 1) es)) ≡ fold put set (flat_map keys (drop i es))
folded_left put keys es i e set lt is =
    sym (ap (λ xs. fold put set (flat_map keys xs)) (drop_more es i e lt is) ∙ fold-append put set (keys e) (flat_map keys (drop (i + 1) es)))

-- one more that may be there, before the others
pub found_next : {A : Type 0} (xs : List A) (found : Option A) (ys : List A) → (xs ++ option_to_list found) ++ ys ≡ xs ++ cons_option found ys
found_next xs None ys = ap (λ zs. zs ++ ys) (append-nil xs)
found_next xs (Some x) ys = append_assoc xs (x ∷ []) ys

-- one more of a map's values, before those of the items that are left
pub shown_next : {A B : Type 0} (f : A → B) (done : List B) (xs : List A) (i : ℕ) (x : A) → i < length xs → x ≡ get_or xs i x
    → (done ++ f x ∷ []) ++ map f (drop (i + 1) xs) ≡ done ++ map f (drop i xs)
shown_next f done xs i x lt is = append_assoc done (f x ∷ []) (map f (drop (i + 1) xs)) ∙ ap (λ ys. done ++ map f ys) (sym (drop_more xs i x lt is))
