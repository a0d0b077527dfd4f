-- Properties each once, at their first mention, and what a listing shows of them.
use Rattle.std.proofs.Common.{◌≡◌, ◌+◌, ◌<◌, ◌++◌, ℕ, Bool, true, false, not, ◌||◌, List, [], ◌∷◌, length, take, get_or, cond, refl, ap, sym, ◌∙◌, append_assoc, append-nil, subst, Option, Some, None}
use Rattle.std.proofs.lemmas.List.{take_more}
use Rattle.std.proofs.lemmas.List.Elements.{filter-append, filter_map-append}
use Rattle.dmap_tags.specs.Tree.{Tree}
use Rattle.std.specs.List.{filter, filter_map, cons_option}
use Rattle.std.specs.Option.{option_to_list}
use Rattle.item_model.specs.declared.property.Property.{Property}
use Rattle.item_model.specs.declared.item.PropValue.{PropValue}
use Rattle.item_model.specs.Properties.{is_same}
use Rattle.item_model.specs.Properties.{property_named}
use Rattle.item_model.specs.Names.{with_known, with_names}
use Rattle.item_model.proofs.Ranks.{same_property}
use Rattle.item_model.specs.Projection.{first_mentions, mentions, new_mention, shown}

pick : (N : Property → Bool) (before s : Bool) (p : Property) → N p ≡ not s → filter N (cond before [] (p ∷ [])) ≡ cond (s || before) [] (p ∷ [])
pick N true true p h = refl
pick N true false p h = refl
pick N false true p h = rw h refl
pick N false false p h = rw h refl

-- a last mention adds the property if it is new
pub first_last : (ps : List Property) (p : Property) → first_mentions (ps ++ p ∷ []) ≡ first_mentions ps ++ new_mention ps p
first_last [] p = refl
first_last (q ∷ ps) p =
    ap (λ xs. q ∷ xs)
    (ap (filter (λ r. not (is_same q r))) (first_last ps p)
    ∙ filter-append _ (first_mentions ps) (new_mention ps p)
    ∙ ap (λ xs. filter (λ r. not (is_same q r)) (first_mentions ps) ++ xs) (pick (λ r. not (is_same q r)) (mentions ps p) (is_same q p) p refl))

-- one more property appends its tag
pub shown_more : (old : List Tree) (item : List (Property × PropValue)) (ps : List Property) (i : ℕ) (d : Property) → i < length ps → (old ++ shown item (take i ps)) ++ shown item (get_or ps i d ∷ []) ≡ old ++ shown item (take (i + 1) ps)
shown_more old item ps i d h =
    append_assoc old _ _
    ∙ ap (λ xs. old ++ xs) (sym (filter_map-append _ (take i ps) (get_or ps i d ∷ [])) ∙ ap (shown item) (sym (take_more ps i d h)))

other_step : (n s m : Bool) (x : Property) (xs rest : List Property) (p : Property) → n ≡ not s → (s ≡ true → is_same x p ≡ false) → mentions rest p ≡ m → mentions (cond n (x ∷ rest) rest) p ≡ (is_same x p || m)
other_step true s m x xs rest p e f h = ap (λ b. is_same x p || b) h
other_step false true m x xs rest p e f h = rw (f refl) h
other_step false false m x xs rest p e f h = absurd (cc)

unlike : (q x p : Property) → is_same q p ≡ false → is_same q x ≡ true → is_same x p ≡ false
unlike q x p h k = subst (λ r. is_same r p ≡ false) (same_property q x k) h

-- without one property, another is mentioned as before
others : (q p : Property) (xs : List Property) → is_same q p ≡ false → mentions (filter (λ r. not (is_same q r)) xs) p ≡ mentions xs p
others q p [] h = refl
others q p (x ∷ xs) h =
    other_step (not (is_same q x)) (is_same q x) (mentions xs p) x xs (filter (λ r. not (is_same q r)) xs) p refl (unlike q x p h) (others q p xs h)

either_way : (s m n : Bool) → (s ≡ false → m ≡ n) → (s || m) ≡ (s || n)
either_way true m n f = refl
either_way false m n f = f refl

-- what is mentioned is among the first mentions
pub mentions_first : (ps : List Property) (p : Property) → mentions (first_mentions ps) p ≡ mentions ps p
mentions_first [] p = refl
mentions_first (q ∷ ps) p =
    either_way (is_same q p) _ _ (λ h. others q p (first_mentions ps) h ∙ mentions_first ps p)

-- a known name adds its property if it is new
pub known_first : (seen : List Property) (o : Option Property) → with_known (first_mentions seen) o ≡ first_mentions (seen ++ option_to_list o)
known_first seen None = ap first_mentions (sym (append-nil seen))
known_first seen (Some p) =
    ap (λ b. first_mentions seen ++ cond b [] (p ∷ [])) (mentions_first seen p) ∙ sym (first_last seen p)

known_then : (seen : List Property) (o : Option Property) (rest : List Property) → (seen ++ option_to_list o) ++ rest ≡ seen ++ cons_option o rest
known_then seen None rest = ap (λ xs. xs ++ rest) (append-nil seen)
known_then seen (Some p) rest = append_assoc seen (p ∷ []) rest

-- a list of names adds the known ones, each once
pub names_first : (seen : List Property) (names : List (List ℕ)) → with_names (first_mentions seen) names ≡ first_mentions (seen ++ filter_map property_named names)
names_first seen [] = ap first_mentions (sym (append-nil seen))
names_first seen (name ∷ names) =
    ap (λ ps. with_names ps names) (known_first seen (property_named name))
    ∙ names_first (seen ++ option_to_list (property_named name)) names
    ∙ ap first_mentions (known_then seen (property_named name) (filter_map property_named names))
