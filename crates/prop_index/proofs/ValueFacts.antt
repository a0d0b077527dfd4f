-- The texts under which ids stand are the values by which the library is browsed.
use Rattle.std.proofs.Common.{◌≡◌, ℕ, Bool, true, false, cond, ◌&&◌, ◌||◌, true≢false, List, [], ◌∷◌, map, filter, fold, Option, Some, None, is_some, refl, sym, ap, ◌∙◌, subst, ⊎_elim, nat_cmp, is_eq, Ordering, Less, Equal, Greater, string_bytes}
use Rattle.std.specs.Prelude.{String}
use Rattle.std.specs.Option.{option_map_or}
use Rattle.std.specs.Ordering.{ordering_reverse}
use Rattle.std.specs.Cmp.Lexicographic.{slice_cmp}
use Rattle.std.specs.Str.{bytes_eq}
use Rattle.std.specs.String.{string_cmp}
use Rattle.std.specs.Map.{keys_of, lookup}
use Rattle.std.specs.List.{list_any, AllByRecursion}
use Rattle.std.specs.List.Sorted.{IsStrictlySortedBy}
use Rattle.std.specs.BTreeMap.{is_at, get_by_text, keys, IsOrdered}
use Rattle.std.specs.BTreeSet.{BTreeSet, insert_key}
use Rattle.std.proofs.lemmas.Bool.{cases_Bool, false_from_ne_true}
use Rattle.std.proofs.lemmas.Cmp.{tied_itself, nat_list_cmp_total}
use Rattle.std.proofs.lemmas.Map.Lookups.{exact_bytes}
use Rattle.std.proofs.lemmas.Map.Text.{is_eq-slice_cmp}
use Rattle.std.proofs.lemmas.Slice.Eq.{bytes_eq-Decides}
use Rattle.item_model.specs.declared.item.Row.{Row}
use Rattle.item_model.specs.declared.request.Browse.{Browse}
use Rattle.share_history.specs.Keyed.{at, IsAscending}
use Rattle.share_history.specs.BrowseListings.{is_filled, sorted_texts}
use Rattle.share_history.proofs.KeyedFacts.{member-insert_key, sorted-insert_key, key_itself}
use Rattle.prop_index.specs.declared.texts.TextIds.{TextIds}
use Rattle.prop_index.specs.declared.index.PropIndex.{PropIndex}
use Rattle.prop_index.specs.IdSets.{has, is_nil, is_unused}
use Rattle.prop_index.specs.Forms.{spelled, browse_text, finds}
use Rattle.prop_index.specs.Index.{texts_in, found, StandsFor}
use Rattle.prop_index.specs.Values.{values_in}
use Rattle.prop_index.proofs.FoundFacts.{each_stands}

-- ---- two ascending lists of the same texts are one

abbrev pub by_bytes : List ℕ → List ℕ → Ordering
by_bytes = slice_cmp nat_cmp

abbrev pub among : List ℕ → List (List ℕ) → Bool
among text texts = list_any (is_at (by_bytes text)) texts

itself : (text : List ℕ) → is_eq (by_bytes text text) ≡ true
itself text = ap is_eq (tied_itself nat_list_cmp_total text)

less_apart : (x y : List ℕ) → by_bytes x y ≡ Less → is_eq (by_bytes x y) ≡ false
less_apart x y h = ap is_eq h

not_below : (x : List ℕ) (ys : List (List ℕ)) → AllByRecursion (λ y. by_bytes x y ≡ Less) ys → among x ys ≡ false
not_below x [] all = refl
not_below x (y ∷ ys) all = ap (λ b. b || among x ys) (less_apart x y all.0) ∙ not_below x ys all.1

below_all : (x y : List ℕ) (ys : List (List ℕ)) → by_bytes x y ≡ Less → AllByRecursion (λ z. by_bytes y z ≡ Less) ys → AllByRecursion (λ z. by_bytes x z ≡ Less) ys
below_all x y [] h all = tt
below_all x y (z ∷ zs) h all = (nat_list_cmp_total.trans x y z h all.0, below_all x y zs h all.1)

head_missing : (x y : List ℕ) (xs ys : List (List ℕ)) → by_bytes x y ≡ Less → AllByRecursion (λ z. by_bytes y z ≡ Less) ys → among x (x ∷ xs) ≡ among x (y ∷ ys) → ⊥
head_missing x y xs ys h all same =
    true≢false (sym (ap (λ b. b || among x xs) (itself x)) ∙ same ∙ not_below x (y ∷ ys) (h, below_all x y ys h all))

or_false_left : (b c : Bool) → b ≡ false → (b || c) ≡ c
or_false_left b c h = ap (λ b. b || c) h

module _ (x y : List ℕ) (xs ys : List (List ℕ)) (xs_rise : AllByRecursion (λ z. by_bytes x z ≡ Less) xs) (ys_rise : AllByRecursion (λ z. by_bytes y z ≡ Less) ys)
    (same : (q : List ℕ) → among q (x ∷ xs) ≡ among q (y ∷ ys)) where
  same_heads : (r : Ordering) → by_bytes x y ≡ r → x ≡ y
  same_heads Less h = absurd (head_missing x y xs ys h ys_rise (same x))
  same_heads Equal h = exact_bytes x y h
  same_heads Greater h = absurd (head_missing y x ys xs (nat_list_cmp_total.antisymm y x ∙ ap ordering_reverse h) xs_rise (sym (same y)))

  same_tails : x ≡ y → (q : List ℕ) → among q xs ≡ among q ys
  same_tails e q =
      ⊎_elim
      (λ (h : is_eq (by_bytes q x) ≡ true).
      let is : q ≡ x = (bytes_eq-Decides q x).0 (sym (is_eq-slice_cmp q x) ∙ h) in
      ap (λ t. among t xs) is ∙ not_below x xs xs_rise ∙ sym (ap (λ t. among t ys) (is ∙ e) ∙ not_below y ys ys_rise))
      (λ (h : is_eq (by_bytes q x) ≡ false).
      sym (or_false_left (is_eq (by_bytes q x)) (among q xs) h) ∙ same q
      ∙ or_false_left (is_eq (by_bytes q y)) (among q ys) (sym (ap (λ t. is_eq (by_bytes q t)) e) ∙ h))
      (cases_Bool (is_eq (by_bytes q x)))

pub same_texts : (xs ys : List (List ℕ)) → IsStrictlySortedBy by_bytes xs → IsStrictlySortedBy by_bytes ys → ((q : List ℕ) → among q xs ≡ among q ys) → xs ≡ ys
unfolding IsStrictlySortedBy
same_texts [] [] s t same = refl
same_texts [] (y ∷ ys) s t same = absurd (true≢false (sym (same y ∙ ap (λ b. b || among y ys) (itself y))))
same_texts (x ∷ xs) [] s t same = absurd (true≢false (sym (ap (λ b. b || among x xs) (itself x)) ∙ same x))
same_texts (x ∷ xs) (y ∷ ys) s t same =
    let e = same_heads x y xs ys s.0 t.0 same (by_bytes x y) refl in
    let r = same_texts xs ys s.1 t.1 (same_tails x y xs ys s.0 t.0 same e) in
    λ i. e i ∷ r i

-- ---- texts in order

sorted_folded : (acc texts : List (List ℕ)) → IsStrictlySortedBy by_bytes acc → IsStrictlySortedBy by_bytes (fold (insert_key by_bytes) acc texts)
sorted_folded acc [] s = s
sorted_folded acc (t ∷ texts) s = sorted_folded (insert_key by_bytes acc t) texts (sorted-insert_key by_bytes nat_list_cmp_total t acc s)

pub sorted_sorted : (texts : List (List ℕ)) → IsStrictlySortedBy by_bytes (sorted_texts texts)
unfolding IsStrictlySortedBy
sorted_sorted texts = sorted_folded [] texts tt

or_moved : (a b c : Bool) → ((a || b) || c) ≡ (b || (a || c))
or_moved true true c = refl
or_moved true false c = refl
or_moved false b c = refl

among_folded : (q : List ℕ) (acc texts : List (List ℕ)) → among q (fold (insert_key by_bytes) acc texts) ≡ (among q acc || among q texts)
among_folded q acc [] = or_none (among q acc)
  where
    or_none : (b : Bool) → b ≡ (b || false)
    or_none true = refl
    or_none false = refl
among_folded q acc (t ∷ texts) =
    among_folded q (insert_key by_bytes acc t) texts ∙ ap (λ b. b || among q texts) (member-insert_key by_bytes nat_list_cmp_total q t acc)
    ∙ or_moved (is_eq (by_bytes q t)) (among q acc) (among q texts)

-- a text that is filled is among the filled texts of some rows where it finds one
same_test : (q text : List ℕ) → (is_filled text && bytes_eq q text) ≡ (is_filled q && bytes_eq text q)
same_test q text =
    ⊎_elim
    (λ (h : bytes_eq q text ≡ true). let e = (bytes_eq-Decides q text).0 h in ap (λ t. is_filled t && bytes_eq q t) (sym e) ∙ ap (λ t. is_filled q && bytes_eq t q) e)
    (λ (h : bytes_eq q text ≡ false).
    let other : bytes_eq text q ≡ false =
    false_from_ne_true (bytes_eq text q) (λ b. true≢false (sym (ap (bytes_eq q) ((bytes_eq-Decides text q).0 b) ∙ (bytes_eq-Decides q q).1 refl) ∙ h)) in
    ap (λ b. is_filled text && b) h ∙ neither (is_filled text) (is_filled q) ∙ ap (λ b. is_filled q && b) (sym other))
    (cases_Bool (bytes_eq q text))
  where
    neither : (a b : Bool) → (a && false) ≡ (b && false)
    neither true true = refl
    neither true false = refl
    neither false true = refl
    neither false false = refl

among_filled : (q : List ℕ) (browse : Browse) (rows : List (ℕ × Row))
    → among q (filter is_filled (map (λ row. browse_text browse row.1) rows)) ≡ list_any (λ row. finds spelled browse q row.1) rows
among_filled q browse [] = refl
among_filled q browse (r ∷ rows) =
    kept (is_filled (browse_text browse r.1))
    ∙ ap (λ b. b || among q (filter is_filled (map (λ row. browse_text browse row.1) rows)))
    (ap (λ b. is_filled (browse_text browse r.1) && b) (is_eq-slice_cmp q (browse_text browse r.1)) ∙ same_test q (browse_text browse r.1))
    ∙ ap (λ b. finds spelled browse q r.1 || b) (among_filled q browse rows)
  where
    kept : (b : Bool) → among q (cond b (browse_text browse r.1 ∷ filter is_filled (map (λ row. browse_text browse row.1) rows)) (filter is_filled (map (λ row. browse_text browse row.1) rows)))
        ≡ ((b && is_eq (by_bytes q (browse_text browse r.1))) || among q (filter is_filled (map (λ row. browse_text browse row.1) rows)))
    kept true = refl
    kept false = refl

-- a text is among the values of some rows where it finds one
pub among_sorted : (q : List ℕ) (browse : Browse) (rows : List (ℕ × Row))
    → among q (values_in browse rows) ≡ list_any (λ row. finds spelled browse q row.1) rows
among_sorted q browse rows = among_folded q [] (filter is_filled (map (λ row. browse_text browse row.1) rows)) ∙ among_filled q browse rows

-- ---- the texts of a map

among_keys : {Y X : Type 0} (q : List ℕ) (es : List (String Y × X)) → among q (map string_bytes (keys_of es)) ≡ is_some (lookup (is_at (λ k. slice_cmp nat_cmp q (string_bytes k))) es)
among_keys q [] = refl
among_keys q (e ∷ es) =
    ap (λ b. is_eq (slice_cmp nat_cmp q (string_bytes e.0)) || b) (among_keys q es)
    ∙ some_or (is_eq (slice_cmp nat_cmp q (string_bytes e.0))) e.1 (lookup (is_at (λ k. slice_cmp nat_cmp q (string_bytes k))) es)
  where
    some_or : {X : Type 0} (b : Bool) (x : X) (found : Option X) → (b || is_some found) ≡ is_some (cond b (Some x) found)
    some_or true x found = refl
    some_or false x found = refl

all_texts : {Y : Type 0} (x : String Y) (ks : List (String Y)) → AllByRecursion (λ k. string_cmp x k ≡ Less) ks → AllByRecursion (λ t. by_bytes (string_bytes x) t ≡ Less) (map string_bytes ks)
all_texts x [] all = tt
all_texts x (k ∷ ks) all = (all.0, all_texts x ks all.1)

sorted_keys : {Y : Type 0} (ks : List (String Y)) → IsStrictlySortedBy string_cmp ks → IsStrictlySortedBy by_bytes (map string_bytes ks)
unfolding IsStrictlySortedBy
sorted_keys [] s = tt
sorted_keys (k ∷ ks) s = (all_texts k ks s.0, sorted_keys ks s.1)

-- ---- a text stands where it finds a row

some_id : (ids : List ℕ) → is_nil ids ≡ false → (id : ℕ) × (has id ids ≡ true)
some_id [] h = absurd (true≢false h)
some_id (id ∷ ids) h = (id, ap (λ b. b || has id ids) (key_itself id))

or_first : (a b : Bool) → a ≡ true → (a || b) ≡ true
or_first a b h = ap (λ a. a || b) h

or_second : (a b : Bool) → b ≡ true → (a || b) ≡ true
or_second true b h = refl
or_second false b h = h

found_first : (f : Row → Bool) (row : Row) (found_at : Option Row) (others : Bool) (b : Bool) → (option_map_or f found_at false ≡ true → others ≡ true)
    → option_map_or f (cond b (Some row) found_at) false ≡ true → (f row || others) ≡ true
found_first f row found_at others true next h = or_first (f row) others h
found_first f row found_at others false next h = or_second (f row) others (next h)

found_among : (f : Row → Bool) (id : ℕ) (rows : List (ℕ × Row)) → option_map_or f (at id rows) false ≡ true → list_any (λ row. f row.1) rows ≡ true
found_among f id [] h = absurd (true≢false (sym h))
found_among f id (r ∷ rows) h = found_first f r.1 (at id rows) (list_any (λ row. f row.1) rows) (is_eq (nat_cmp id r.0)) (found_among f id rows) h

among_found : (f : Row → Bool) (whole rows : List (ℕ × Row)) → AllByRecursion (λ e. at e.0 whole ≡ Some e.1) rows → list_any (λ row. f row.1) rows ≡ true
    → (id : ℕ) × (option_map_or f (at id whole) false ≡ true)
among_found f whole [] all h = absurd (true≢false (sym h))
among_found f whole (r ∷ rows) all h =
    ⊎_elim
    (λ (e : f r.1 ≡ true). let here : (id : ℕ) × (option_map_or f (at id whole) false ≡ true) = (r.0, ap (λ o. option_map_or f o false) all.0 ∙ e) in here)
    (λ (e : f r.1 ≡ false). among_found f whole rows all.1 (sym (or_false_left (f r.1) (list_any (λ row. f row.1) rows) e) ∙ h))
    (cases_Bool (f r.1))

both_ways : (a b : Bool) → (a ≡ true → b ≡ true) → (b ≡ true → a ≡ true) → a ≡ b
both_ways true b there back = sym (there refl)
both_ways false true there back = back refl
both_ways false false there back = refl

module _ (rows : List (ℕ × Row)) (index : PropIndex) (browse : Browse) (rising : IsAscending rows) (stands : StandsFor rows index) (text : List ℕ) where
  abbrev texts : TextIds
  texts = texts_in index browse spelled

  stands_found : (o : Option (BTreeSet ℕ)) → get_by_text texts.ids text ≡ o → is_unused o ≡ false → is_some o ≡ true → list_any (λ row. finds spelled browse text row.1) rows ≡ true
  stands_found None e used h = absurd (true≢false (sym h))
  stands_found (Some ids) e used h =
      let some = some_id ids.keys used in
      let here : has some.0 (found index browse spelled text) ≡ true = ap (λ o. has some.0 (option_map_or (λ ids. ids.keys) o [])) e ∙ some.1 in
      found_among (finds spelled browse text) some.0 rows (sym (stands.found_by browse spelled text some.0) ∙ here)

  found_stands : (o : Option (BTreeSet ℕ)) → get_by_text texts.ids text ≡ o → list_any (λ row. finds spelled browse text row.1) rows ≡ true → is_some o ≡ true
  found_stands None e h =
      let some = among_found (finds spelled browse text) rows rows (each_stands rows rising) h in
      let here : has some.0 (found index browse spelled text) ≡ true = stands.found_by browse spelled text some.0 ∙ some.1 in
      absurd (true≢false (sym here ∙ ap (λ o. has some.0 (option_map_or (λ ids. ids.keys) o [])) e))
  found_stands (Some ids) e h = refl

  pub text_stands : is_some (get_by_text texts.ids text) ≡ list_any (λ row. finds spelled browse text row.1) rows
  text_stands =
      both_ways _ _ (stands_found (get_by_text texts.ids text) refl (texts.used text)) (found_stands (get_by_text texts.ids text) refl)

-- the texts under which ids stand are the values
pub values_are : (rows : List (ℕ × Row)) (index : PropIndex) (browse : Browse) (texts : List (List ℕ)) → IsAscending rows → StandsFor rows index
    → texts ≡ map string_bytes (keys (texts_in index browse spelled).ids) → IsOrdered string_cmp (texts_in index browse spelled).ids → texts ≡ values_in browse rows
values_are rows index browse texts rising stands is ordered =
    same_texts texts (values_in browse rows) (subst (IsStrictlySortedBy by_bytes) (sym is) (sorted_keys (keys (texts_in index browse spelled).ids) ordered))
    (sorted_sorted (filter is_filled (map (λ row. browse_text browse row.1) rows)))
    (λ q. ap (among q) is ∙ among_keys q (texts_in index browse spelled).ids.entries ∙ text_stands rows index browse rising stands q
    ∙ sym (among_sorted q browse rows))
