-- The properties that some row of a sheet has, in the order of sheets.
use Rattle.std.proofs.Common.{◌≡◌, ◌<◌, ◌&&◌, ◌||◌, ◌++◌, ℕ, zero, suc, arith, Bool, true, false, not, cond, List, [], ◌∷◌, length, get_or, refl, sym, ap, ◌∙◌, subst, Option, Some, None, is_some, IfSome, All}
use Rattle.std.specs.List.{filter, list_any, cons_option}
use Rattle.std.specs.Option.{option_map}
use Rattle.std.proofs.lemmas.Map.Views.{any-filter_same}
use Rattle.dmap_tags.specs.Spelling.{spellings}
use Rattle.dmap_tags.specs.Tree.{trees_of}
use Rattle.item_model.specs.declared.item.PropValue.{PropValue}
use Rattle.item_model.specs.declared.item.Row.{Row}
use Rattle.item_model.specs.declared.property.Property.{Property}
use Rattle.item_model.specs.declared.property.Property.TheVariants.{Minm, Mikd, Mper, Asar, Asal, Asaa, Asgn, Ascp, Ascm, Agrp, Asfm, Asyr, Astn, Astc, Asdn, Asdc, Asbr, Asbt, Astm, Assr, Assz, Asur, Asco, Aemk, Asda, Asdm}
use Rattle.item_model.specs.Items.{value_of, is_value_of}
use Rattle.item_model.specs.Properties.{all_properties, is_same}
use Rattle.item_model.specs.Projection.{default_projection, first_mentions, mentions, property_tag}
use Rattle.item_model.proofs.Ranks.{same_property}
use Rattle.item_model.proofs.Distinct.{first_again}
use Rattle.row_sheets.specs.Held.{sheet_order, is_held, held_properties}
use Rattle.row_sheets.specs.Cells.{HasNoOther, HasValue, HasValues}

-- the order of sheets as the code has it
pub order_is : sheet_order ≡ Mikd ∷ Minm ∷ Asar ∷ Asal ∷ Astn ∷ Astm ∷ Mper ∷ Asaa ∷ Asgn ∷ Ascp ∷ Ascm ∷ Agrp ∷ Asfm ∷ Asyr ∷ Astc ∷ Asdn ∷ Asdc ∷ Asbr ∷ Asbt ∷ Assr ∷ Assz ∷ Asur ∷ Asco ∷ Aemk ∷ Asda ∷ Asdm ∷ []
unfolding sheet_order
order_is = refl

order_once : first_mentions sheet_order ≡ sheet_order
unfolding sheet_order
order_once = first_again (default_projection ++ all_properties)

-- the order has each property
order_has : (p : Property) → mentions sheet_order p ≡ true
unfolding sheet_order
order_has Minm = refl
order_has Mikd = refl
order_has Mper = refl
order_has Asar = refl
order_has Asal = refl
order_has Asaa = refl
order_has Asgn = refl
order_has Ascp = refl
order_has Ascm = refl
order_has Agrp = refl
order_has Asfm = refl
order_has Asyr = refl
order_has Astn = refl
order_has Astc = refl
order_has Asdn = refl
order_has Asdc = refl
order_has Asbr = refl
order_has Asbt = refl
order_has Astm = refl
order_has Assr = refl
order_has Assz = refl
order_has Asur = refl
order_has Asco = refl
order_has Aemk = refl
order_has Asda = refl
order_has Asdm = refl

-- all but one property
abbrev but : Property → List Property → List Property
but q xs = filter (λ r. not (is_same q r)) xs

order_step : (M N : Property → Bool) (x : Property) (xs : List Property) (m n : Bool) → M x ≡ m → N x ≡ n → filter M (filter N xs) ≡ filter N (filter M xs) → filter M (cond n (x ∷ filter N xs) (filter N xs)) ≡ filter N (cond m (x ∷ filter M xs) (filter M xs))
order_step M N x xs true true h k ih = rw (h, k) (ap (λ ys. x ∷ ys) ih)
order_step M N x xs true false h k ih = rw k ih
order_step M N x xs false true h k ih = rw h ih
order_step M N x xs false false h k ih = ih

-- two tests pass in either order
order : (M N : Property → Bool) (xs : List Property) → filter M (filter N xs) ≡ filter N (filter M xs)
order M N [] = refl
order M N (x ∷ xs) = order_step M N x xs (M x) (N x) refl refl (order M N xs)

dropped_step : (M : Property → Bool) (x y : Property) (ys : List Property) (s : Bool) → M x ≡ false → is_same x y ≡ s → filter M (but x ys) ≡ filter M ys → filter M (cond (not s) (y ∷ but x ys) (but x ys)) ≡ filter M (y ∷ ys)
dropped_step M x y ys true h k ih = let no : M y ≡ false = subst (λ z. M z ≡ false) (same_property x y k) h in rw no ih
dropped_step M x y ys false h k ih = ap (λ zs. cond (M y) (y ∷ zs) zs) ih

-- a property that does not pass may as well be taken out before
dropped : (M : Property → Bool) (x : Property) (ys : List Property) → M x ≡ false → filter M (but x ys) ≡ filter M ys
dropped M x [] h = refl
dropped M x (y ∷ ys) h = dropped_step M x y ys (is_same x y) h refl (dropped M x ys h)

filter_step : (M : Property → Bool) (x : Property) (xs : List Property) (m : Bool) → M x ≡ m → first_mentions (filter M xs) ≡ filter M (first_mentions xs) → first_mentions (cond m (x ∷ filter M xs) (filter M xs)) ≡ filter M (x ∷ but x (first_mentions xs))
filter_step M x xs true h ih = rw h (ap (λ ys. x ∷ ys) (ap (but x) ih ∙ order (λ r. not (is_same x r)) M (first_mentions xs)))
filter_step M x xs false h ih = rw h (ih ∙ sym (dropped M x (first_mentions xs) h))

-- the first mentions of those that pass are those that pass of the first mentions
first_filter : (M : Property → Bool) (xs : List Property) → first_mentions (filter M xs) ≡ filter M (first_mentions xs)
first_filter M [] = refl
first_filter M (x ∷ xs) = filter_step M x xs (M x) refl (first_filter M xs)

-- each held property is there once
pub held_once : (rows : List Row) → first_mentions (held_properties rows) ≡ held_properties rows
held_once rows = first_filter (is_held rows) sheet_order ∙ ap (filter (is_held rows)) order_once

-- the properties that are there are those that some row has
held_has : (rows : List Row) (p : Property) → mentions (held_properties rows) p ≡ is_held rows p
held_has rows p =
    any-filter_same (λ q. is_same q p) (is_held rows) (is_held rows p) (λ q k. ap (is_held rows) (same_property q p k)) sheet_order
    ∙ ap (λ b. is_held rows p && b) (order_has p) ∙ and_true (is_held rows p)
  where
    and_true : (b : Bool) → (b && true) ≡ b
    and_true true = refl
    and_true false = refl

or_false_first : (a b : Bool) → (a || b) ≡ false → a ≡ false
or_false_first true b h = h
or_false_first false b h = refl

or_false_second : (a b : Bool) → (a || b) ≡ false → b ≡ false
or_false_second true b h = absurd (cc)
or_false_second false b h = h

-- where none passes, the one at a place does not
any_false_at : {X : Type 0} (test : X → Bool) (xs : List X) (k : ℕ) (d : X) → list_any test xs ≡ false → k < length xs → test (get_or xs k d) ≡ false
any_false_at test [] k d h lt = absurd (omega arith)
any_false_at test (x ∷ xs) zero d h lt = or_false_first (test x) (list_any test xs) h
any_false_at test (x ∷ xs) (suc k) d h lt = any_false_at test xs k d (or_false_second (test x) (list_any test xs) h) (omega arith)

none_there : (o : Option PropValue) → is_some o ≡ false → o ≡ None
none_there None h = refl
none_there (Some v) h = absurd (cc)

-- a row of the sheet has nothing of a property that is not among the held ones
absent : (rows : List Row) (k : ℕ) (d : Row) (p : Property) → k < length rows → mentions (held_properties rows) p ≡ false → value_of p (get_or rows k d).item ≡ None
absent rows k d p lt h =
    none_there (value_of p (get_or rows k d).item) (any_false_at (λ row. is_some (value_of p row.item)) rows k d (sym (held_has rows p) ∙ h) lt)

pub held_others : (rows : List Row) → All (HasNoOther (held_properties rows)) rows
held_others rows = λ k d lt p h.
    ap (λ o. spellings (trees_of (cons_option (option_map (property_tag p) o) []))) (absent rows k d p lt h)

mentioned_step : (P : Property → Type 0) (q p : Property) (qs : List Property) (s : Bool) → is_same q p ≡ s → P q → (mentions qs p ≡ true → P p) → (s || mentions qs p) ≡ true → P p
mentioned_step P q p qs true k here later h = subst P (same_property q p k) here
mentioned_step P q p qs false k here later h = later h

-- what holds of all properties of a list holds of one that is mentioned
mentioned : (P : Property → Type 0) (ps : List Property) (p : Property) → All P ps → mentions ps p ≡ true → P p
mentioned P [] p all h = absurd (cc)
mentioned P (q ∷ qs) p all h =
    mentioned_step P q p qs (is_same q p) refl (all 0 q (omega arith)) (mentioned P qs p (λ k d lt. all (suc k) d (omega (arith, lt)))) h

value_step : (rows : List Row) (k : ℕ) (d : Row) (p : Property) (b : Bool) → mentions (held_properties rows) p ≡ b → k < length rows → All (HasValue (get_or rows k d).item) (held_properties rows) → HasValue (get_or rows k d).item p
value_step rows k d p true h lt all = mentioned (HasValue (get_or rows k d).item) (held_properties rows) p all h
value_step rows k d p false h lt all = subst (λ o. IfSome o (λ v. is_value_of p v ≡ true)) (sym (absent rows k d p lt h)) tt

-- rows have values of the kinds of their properties where they have those of the held ones
pub held_values : (rows : List Row) → All (λ row. All (HasValue row.item) (held_properties rows)) rows → All HasValues rows
held_values rows all = λ k d lt p. value_step rows k d p (mentions (held_properties rows) p) refl lt (all k d lt)
