-- The index of a property among the entries of an item, and the values that are set and found there.
use Rattle.std.proofs.Common.{◌≡◌, ◌<◌, ◌≤◌, ◌+◌, ◌++◌, ℕ, zero, suc, Bool, true, false, nat_lt, nat_le, ◌==◌, List, [], ◌∷◌, length, get_or, set, take, drop, if◌then◌else◌, cond, Option, Some, None, IfSome, option_copied, Bor, refl, ap, sym, subst, arith}
use Rattle.std.specs.List.{insert}
use Rattle.std.proofs.Math.Seq.{drop-length}
use Rattle.std.proofs.lemmas.Bool.{and_parts, and_from, le-leb, ltb-true, eqb-true}
use Rattle.std.proofs.lemmas.Bool.Decides.{nat_tests}
use Rattle.item_model.specs.declared.property.Property.{Property}
use Rattle.item_model.specs.declared.item.PropValue.{PropValue}
use Rattle.item_model.specs.Properties.{rank_of, is_same}
use Rattle.item_model.specs.Items.{AreTexts, IsText, is_value_of, rises_from, with_value, value_of}
use Rattle.item_model.proofs.Ranks.{same_property}

abbrev Entry : Type 0
Entry = Property × PropValue

-- a rank is neither below itself nor another
same_rank : (m n : ℕ) (x y z : List Entry) → m ≡ n → y ≡ (if nat_lt m n then x else if m == n then y else z)
same_rank m n x y z e = grind (arith, nat_tests)

higher_rank : (m n : ℕ) (x y z : List Entry) → n < m → z ≡ (if nat_lt m n then x else if m == n then y else z)
higher_rank m n x y z h = grind (arith, nat_tests)

-- if the property has an entry, its value is replaced
pub same_here : (p : Property) (v : PropValue) (es : List Entry) (i : ℕ) (d : Entry) → i < length es → rank_of (get_or es i d).0 ≡ rank_of p → set es i (p, v) ≡ take i es ++ with_value p v (drop i es)
same_here p v [] i d h k = absurd (omega arith)
same_here p v (e ∷ es) zero d h k = same_rank (rank_of e.0) (rank_of p) _ _ _ k
same_here p v (e ∷ es) (suc i) d h k = ap (λ xs. e ∷ xs) (same_here p v es i d (omega arith) k)

-- before the first entry of a later property, the value is inserted
pub new_here : (p : Property) (v : PropValue) (es : List Entry) (i : ℕ) (d : Entry) → i < length es → rank_of p < rank_of (get_or es i d).0 → insert es i (p, v) ≡ take i es ++ with_value p v (drop i es)
new_here p v [] i d h k = absurd (omega arith)
new_here p v (e ∷ es) zero d h k = higher_rank (rank_of e.0) (rank_of p) _ _ _ k
new_here p v (e ∷ es) (suc i) d h k = ap (λ xs. e ∷ xs) (new_here p v es i d (omega arith) k)

-- if there is no later property, it is appended
pub new_last : (p : Property) (v : PropValue) (es : List Entry) → insert es (length es) (p, v) ≡ take (length es) es ++ with_value p v (drop (length es) es)
new_last p v es = rw (drop-length es) refl

-- not below and not the same: above
above : (m n : ℕ) → nat_lt m n ≡ false → (m == n) ≡ false → nat_le (n + 1) m ≡ true
above m n h k = grind (arith, nat_tests)

stays_step : (p : Property) (v : PropValue) (n : ℕ) (e : Entry) (es with : List Entry) (b s : Bool) → nat_lt (rank_of e.0) (rank_of p) ≡ b → (rank_of e.0 == rank_of p) ≡ s → is_value_of p v ≡ true → n ≤ rank_of p → rises_from n (e ∷ es) ≡ true → (rank_of e.0 + 1 ≤ rank_of p → rises_from (rank_of e.0 + 1) with ≡ true) → rises_from n (cond b (e ∷ with) (cond s ((p, v) ∷ es) ((p, v) ∷ e ∷ es))) ≡ true
stays_step p v n e es with true s l m f h k ih =
    let lt : rank_of e.0 < rank_of p = ltb-true _ _ l in
    and_from _ _ (and_parts _ _ k).0 (and_from _ _ (and_parts _ _ (and_parts _ _ k).1).0 (ih (omega arith)))
stays_step p v n e es with false true l m f h k ih =
    let same : rank_of e.0 ≡ rank_of p = eqb-true _ _ m in
    and_from _ _ (le-leb _ _ h) (and_from _ _ f (subst (λ r. rises_from (r + 1) es ≡ true) same (and_parts _ _ (and_parts _ _ k).1).1))
stays_step p v n e es with false false l m f h k ih =
    and_from _ _ (le-leb _ _ h) (and_from _ _ f (and_from _ _ (above _ _ l m) (and_parts _ _ k).1))

-- setting a value of the property keeps the ranks ascending and the values fitting
pub stays_item : (p : Property) (v : PropValue) (n : ℕ) (es : List Entry) → is_value_of p v ≡ true → n ≤ rank_of p → rises_from n es ≡ true → rises_from n (with_value p v es) ≡ true
stays_item p v n [] f h k = and_from _ _ (le-leb _ _ h) (and_from _ _ f refl)
stays_item p v n (e ∷ es) f h k =
    stays_step p v n e es (with_value p v es) (nat_lt (rank_of e.0) (rank_of p)) (is_same e.0 p) refl refl f h k
    (λ m. stays_item p v (rank_of e.0 + 1) es f m (and_parts _ _ (and_parts _ _ k).1).1)

fits_step : (p : Property) (e : Entry) (rest : Option PropValue) (s : Bool) → is_same e.0 p ≡ s → is_value_of e.0 e.1 ≡ true → IfSome rest (λ v. is_value_of p v ≡ true) → IfSome (cond s (Some e.1) rest) (λ v. is_value_of p v ≡ true)
fits_step p e rest true m f ih = subst (λ q. is_value_of q e.1 ≡ true) (same_property e.0 p m) f
fits_step p e rest false m f ih = ih

-- a value of an item is of its property's kind and range
pub value_fits : (p : Property) (n : ℕ) (es : List Entry) → rises_from n es ≡ true → IfSome (value_of p es) (λ v. is_value_of p v ≡ true)
value_fits p n [] h = tt
value_fits p n (e ∷ es) h =
    let k = (and_parts _ _ (and_parts _ _ h).1) in
    fits_step p e (value_of p es) (is_same e.0 p) refl k.0 (value_fits p (rank_of e.0 + 1) es k.1)

texts_step : (p : Property) (v : PropValue) (e : Entry) (es with : List Entry) (b s : Bool) → IsText v → IsText e.1 → AreTexts es → AreTexts with
    → AreTexts (cond b (e ∷ with) (cond s ((p, v) ∷ es) ((p, v) ∷ e ∷ es)))
texts_step p v e es with true s new old others rest = (old, rest)
texts_step p v e es with false true new old others rest = (new, others)
texts_step p v e es with false false new old others rest = (new, (old, others))

-- setting a text that is UTF-8 keeps all texts UTF-8
pub stay_texts : (p : Property) (v : PropValue) (es : List Entry) → IsText v → AreTexts es → AreTexts (with_value p v es)
stay_texts p v [] new h = (new, tt)
stay_texts p v (e ∷ es) new h = texts_step p v e es (with_value p v es) (nat_lt (rank_of e.0) (rank_of p)) (is_same e.0 p) new h.0 h.1 (stay_texts p v es new h.1)

-- what holds of a value holds of a reference to it
pub through : (P : PropValue → Type 0) (r : Option (Bor PropValue)) (o : Option PropValue) → option_copied r ≡ o → IfSome o P → IfSome r (λ v. P v.now)
through P None o e h = tt
through P (Some v) o e h = subst (λ found. IfSome found P) (sym e) h
