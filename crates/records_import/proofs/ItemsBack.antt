-- The properties of an item, each written in its column, read back as the item.
use Rattle.std.proofs.Common.{◌≡◌, ◌≤◌, ◌<◌, ◌+◌, ◌∷◌, ◌++◌, ◌&&◌, ◌∙◌, [], ℕ, suc, List, Option, Some, None, true, nat_le, IsUtf8, IfSome, refl, sym, ap, subst, inl, inr, map, append_assoc, append-nil, arith}
use Rattle.std.proofs.lemmas.Bool.{and_from, and_parts, cases_Bool, eq-eqb, eqb-false, leb-true, lt-ltb, le-leb, ne_eqb}
use Rattle.csv.specs.Records.{AllText}
use Rattle.item_model.proofs.Places.{value_fits}
use Rattle.item_model.proofs.Ranks.{rank_below, same_property}
use Rattle.item_model.specs.Items.{is_item, is_value_of, rises_from, value_of, with_value}
use Rattle.item_model.specs.Properties.{all_properties, is_same, property_count, rank_of}
use Rattle.item_model.specs.declared.item.PropValue.{PropValue}
use Rattle.item_model.specs.declared.property.Property.{Property}
use Rattle.records_import.specs.Records.{Properties, properties_of, with_cell, with_cells}
use Rattle.records_import.specs.Values.{property_flaw}
use Rattle.records_import.specs.Written.{property_cell, value_cell, written_columns}
use Rattle.records_import.specs.declared.header.Column.{Column}
use Rattle.records_import.specs.declared.header.Column.TheVariants as holds
use Rattle.records_import.proofs.CellsBack.{value_sound, value_taken}

-- properties from a rank on, with none left out
abbrev AreFrom : ℕ → List Property → Type 0
AreFrom n [] = property_count ≤ n
AreFrom n (p ∷ ps) = (rank_of p ≡ n) × AreFrom (suc n) ps

from_first : AreFrom 0 all_properties
from_first = (refl, (refl, (refl, (refl, (refl, (refl, (refl, (refl, (refl, (refl, (refl, (refl, (refl, (refl, (refl, (refl, (refl, (refl, (refl, (refl, (refl, (refl, (refl, (refl, (refl, (refl, omega arith))))))))))))))))))))))))))

-- entries of properties before a rank
abbrev AreBelow : ℕ → Properties → Type 0
AreBelow n [] = Unit {0}
AreBelow n (e ∷ entries) = (rank_of e.0 < n) × AreBelow n entries

below_later : (n : ℕ) (entries : Properties) → AreBelow n entries → AreBelow (suc n) entries
below_later n [] h = tt
below_later n (e ∷ entries) h = (omega (arith, h.0), below_later n entries h.1)

below_more : (n : ℕ) (p : Property) (v : PropValue) (entries : Properties) → rank_of p ≡ n → AreBelow n entries → AreBelow (suc n) (entries ++ (p, v) ∷ [])
below_more n p v [] e h = (omega (arith, e), tt)
below_more n p v (f ∷ entries) e h = (omega (arith, h.0), below_more n p v entries e h.1)

-- a property after all entries is appended, and found there
set_behind : (p : Property) (v : PropValue) (entries : Properties) → AreBelow (rank_of p) entries → with_value p v entries ≡ entries ++ (p, v) ∷ []
set_behind p v [] h = refl
set_behind p v (e ∷ entries) h = rw (lt-ltb (rank_of e.0) (rank_of p) h.0) (ap (λ s. e ∷ s) (set_behind p v entries h.1))

value_behind : (p : Property) (entries rest : Properties) → AreBelow (rank_of p) entries → value_of p (entries ++ rest) ≡ value_of p rest
value_behind p [] rest h = refl
value_behind p (e ∷ entries) rest h = rw (ne_eqb (rank_of e.0) (rank_of p) (λ e. omega (arith, h.0))) (value_behind p entries rest h.1)

record Rises (n : ℕ) (e : Property × PropValue) (entries : Properties) : Type 0 where
  pub from : n ≤ rank_of e.0
  pub fits : is_value_of e.0 e.1 ≡ true
  pub rest : rises_from (rank_of e.0 + 1) entries ≡ true

rises : (n : ℕ) (e : Property × PropValue) (entries : Properties) → rises_from n (e ∷ entries) ≡ true → Rises n e entries
rises n e entries h =
    let first = and_parts (nat_le n (rank_of e.0)) (is_value_of e.0 e.1 && rises_from (rank_of e.0 + 1) entries) h in
    let other = and_parts (is_value_of e.0 e.1) (rises_from (rank_of e.0 + 1) entries) first.1 in
    record { from = leb-true n (rank_of e.0) first.0; fits = other.0; rest = other.1 }

-- entries from a later rank on lack the property
value_before : (p : Property) (n : ℕ) (entries : Properties) → rank_of p < n → rises_from n entries ≡ true → value_of p entries ≡ None
value_before p n [] below h = refl
value_before p n (e ∷ entries) below h =
    let r = rises n e entries h in
    rw (ne_eqb (rank_of e.0) (rank_of p) (λ e. omega (arith, r.from))) (value_before p (rank_of e.0 + 1) entries (omega (arith, r.from)) r.rest)

-- the columns of lists and members
abbrev other_columns : List Column
other_columns = holds.Query ∷ holds.List ∷ holds.Item ∷ []

-- the columns of these properties, and their cells for an item
abbrev columns_for : List Property → List Column
columns_for ps = map (λ p. holds.Property p) ps ++ other_columns

abbrev cells_for : Properties → List Property → List (List ℕ)
cells_for item ps = map (property_cell item) (columns_for ps)

-- the properties set so far, and those left of the item
record IsSplit (item : Properties) (n : ℕ) (set left : Properties) : Type 0 where
  pub whole : item ≡ set ++ left
  pub below : AreBelow n set
  pub above : rises_from n left ≡ true

-- a property that the item lacks
lacking : (item : Properties) (p : Property) (set : Properties) → value_of p item ≡ None → with_cell (holds.Property p) (value_cell (value_of p item)) set ≡ set
lacking item p set h = rw h refl

-- one that it has
having : (item : Properties) (p : Property) (v : PropValue) (set : Properties) → value_of p item ≡ Some v → is_value_of p v ≡ true → IsUtf8 (value_cell (value_of p item)) → AreBelow (rank_of p) set
    → with_cell (holds.Property p) (value_cell (value_of p item)) set ≡ set ++ (p, v) ∷ []
having item p v set h fits utf8 below =
    ap (λ o. with_cell (holds.Property p) (value_cell o) set) h
    ∙ value_taken p v set fits (subst (λ o. IsUtf8 (value_cell o)) h utf8)
    ∙ set_behind p v set below

value_there : (item : Properties) (n : ℕ) (set left : Properties) (p : Property) → IsSplit item n set left → rank_of p ≡ n → value_of p item ≡ value_of p left
value_there item n set left p s r = ap (value_of p) s.whole ∙ value_behind p set left (subst (λ m. AreBelow m set) (sym r) s.below)

found : (p q : Property) (v : PropValue) (entries : Properties) → q ≡ p → value_of p ((q, v) ∷ entries) ≡ Some v
found p q v entries e = rw (eq-eqb (rank_of q) (rank_of p) (ap rank_of e)) refl

-- no entry has a rank above the last
none_left : (left : Properties) (n : ℕ) → property_count ≤ n → rises_from n left ≡ true → left ≡ []
none_left [] n past h = refl
none_left (e ∷ left) n past h = absurd (omega (arith, (rises n e left h).from, rank_below e.0))

-- the next property sets nothing, or the first entry left
record Stepped (item : Properties) (n : ℕ) (p : Property) (set : Properties) : Type 0 where
  pub next : Properties
  pub left : Properties
  pub split : IsSplit item (suc n) next left
  pub sets : with_cell (holds.Property p) (value_cell (value_of p item)) set ≡ next

without : (item : Properties) (n : ℕ) (p : Property) (set left : Properties) → rank_of p ≡ n → IsSplit item n set left → value_of p left ≡ None
    → rises_from (suc n) left ≡ true → Stepped item n p set
without item n p set left ranked s none above = record {
  next = set;
  left = left;
  split = record { whole = s.whole; below = below_later n set s.below; above = above };
  sets = lacking item p set (value_there item n set left p s ranked ∙ none);
}

with_first : (item : Properties) (n : ℕ) (p : Property) (set : Properties) (e : Property × PropValue) (left : Properties) → rank_of p ≡ n → IsSplit item n set (e ∷ left)
    → Rises n e left → IsUtf8 (value_cell (value_of p item)) → is_same e.0 p ≡ true → Stepped item n p set
with_first item n p set e left ranked s r utf8 same =
    let here : e.0 ≡ p = same_property e.0 p same in
    let value : value_of p item ≡ Some e.1 = value_there item n set (e ∷ left) p s ranked ∙ rw same refl in
    let below : AreBelow (rank_of p) set = subst (λ m. AreBelow m set) (sym ranked) s.below in
    record {
      next = set ++ (p, e.1) ∷ [];
      left = left;
      split = record {
        whole = s.whole ∙ ap (λ q. set ++ (q, e.1) ∷ left) here ∙ sym (append_assoc set ((p, e.1) ∷ []) left);
        below = below_more n p e.1 set ranked s.below;
        above = subst (λ m. rises_from m left ≡ true) (omega (arith, ap rank_of here)) r.rest;
      };
      sets = having item p e.1 set value (subst (λ q. is_value_of q e.1 ≡ true) here r.fits) utf8 below;
    }

step : (item : Properties) (n : ℕ) (p : Property) (set left : Properties) → rank_of p ≡ n → IsSplit item n set left → IsUtf8 (value_cell (value_of p item)) → Stepped item n p set
step item n p set [] ranked s utf8 = without item n p set [] ranked s refl refl
step item n p set (e ∷ left) ranked s utf8 =
    let r = rises n e left s.above in
    elim (cases_Bool (is_same e.0 p)) [
      | inl same ↦ with_first item n p set e left ranked s r utf8 same
      | inr other ↦
          let apart : rank_of e.0 ≡ rank_of p → ⊥ = eqb-false (rank_of e.0) (rank_of p) other in
          let later : suc n ≤ rank_of e.0 = omega (arith, r.from) in
          let above : rises_from (suc n) (e ∷ left) ≡ true = and_from _ _ (le-leb (suc n) (rank_of e.0) later) (and_from _ _ r.fits r.rest) in
          without item n p set (e ∷ left) ranked s (value_before p (suc n) (e ∷ left) (omega arith) above) above
    ]

read_from : (item : Properties) (n : ℕ) (ps : List Property) (set left : Properties) → AreFrom n ps → IsSplit item n set left → AllText (cells_for item ps)
    → with_cells set (columns_for ps) (cells_for item ps) ≡ item
unfolding AllText
read_from item n [] set left from s text = sym (s.whole ∙ ap (λ r. set ++ r) (none_left left n from s.above) ∙ append-nil set)
read_from item n (p ∷ ps) set left from s text =
    let next = step item n p set left from.0 s text.0 in
    ap (λ r. with_cells r (columns_for ps) (cells_for item ps)) next.sets ∙ read_from item (suc n) ps next.next next.left from.1 next.split text.1

-- the cells of an item set its properties
pub item_back : (item : Properties) → is_item item ≡ true → AllText (map (property_cell item) written_columns)
    → properties_of written_columns (map (property_cell item) written_columns) ≡ item
item_back item h text = read_from item 0 all_properties [] item from_first (record { whole = refl; below = tt; above = h }) text

sound_value : (p : Property) (o : Option PropValue) → IfSome o (λ v. is_value_of p v ≡ true) → IsUtf8 (value_cell o) → None ≡ property_flaw p (value_cell o)
sound_value p None fits utf8 = refl
sound_value p (Some v) fits utf8 = value_sound p v fits utf8

-- and none of them is malformed
pub property_sound : (item : Properties) → is_item item ≡ true → (p : Property) → IsUtf8 (value_cell (value_of p item)) → None ≡ property_flaw p (value_cell (value_of p item))
property_sound item h p utf8 = sound_value p (value_of p item) (value_fits p 0 item h) utf8
