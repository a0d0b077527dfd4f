-- The laws.
use Rattle.std.proofs.Common.{◌≡◌, ℕ, Bool, true, false, cond, ◌&&◌, ◌||◌, true≢false, List, [], ◌∷◌, map, filter, Option, Some, None, Less, refl, sym, ap, ◌∙◌, ⊎_elim}
use Rattle.std.specs.List.{list_any, AllByRecursion}
use Rattle.std.specs.List.Sorted.{IsStrictlySortedBy}
use Rattle.std.specs.BTreeMap.{is_at}
use Rattle.std.proofs.lemmas.Bool.{cases_Bool, false_from_ne_true}
use Rattle.std.proofs.lemmas.Map.Views.{any-filter_same}
use Rattle.std.proofs.lemmas.Map.Text.{is_eq-slice_cmp}
use Rattle.std.proofs.lemmas.Slice.Eq.{bytes_eq-Decides}
use Rattle.item_model.specs.declared.changes.Edit.{Edit}
use Rattle.item_model.specs.declared.item.Row.{Row}
use Rattle.item_model.specs.declared.query.Query.{Query}
use Rattle.item_model.specs.declared.request.Browse.{Browse}
use Rattle.item_model.specs.declared.request.Target.TheVariants.{Items}
use Rattle.item_model.specs.QuerySeen.{tree_of}
use Rattle.share_history.specs.Rows.{is_selected, rows, library}
use Rattle.share_history.specs.BrowseListings.{is_filled, browse_values}
use Rattle.share_history.proofs.RowFacts.{rows_selected}
use Rattle.prop_index.specs.Forms.{spelled, browse_text, finds}
use Rattle.prop_index.specs.Candidates.{needed_text, is_candidate}
use Rattle.prop_index.specs.Laws.{CandidatesSuffice, ValuesByTheirItems}
use Rattle.prop_index.proofs.NeedFacts.{query_needs}
use Rattle.prop_index.proofs.ValueFacts.{by_bytes, among, same_texts, sorted_sorted, among_sorted}

-- ---- candidates

-- a filter may be made of what passes a weaker test
filtered_twice : {X : Type 0} (p f : X → Bool) (xs : List X) → AllByRecursion (λ x. p x ≡ true → f x ≡ true) xs → filter p xs ≡ filter p (filter f xs)
filtered_twice p f [] all = refl
filtered_twice {X} p f (x ∷ xs) all =
    ⊎_elim
    (λ (h : f x ≡ true).
    ap (λ ys. cond (p x) (x ∷ ys) ys) (filtered_twice p f xs all.1) ∙ ap (λ b. filter p (cond b (x ∷ filter f xs) (filter f xs))) (sym h))
    (λ (h : f x ≡ false).
    ap (λ b. cond b (x ∷ filter p xs) (filter p xs)) (false_from_ne_true (p x) (λ e. true≢false (sym (all.0 e) ∙ h)))
    ∙ filtered_twice p f xs all.1 ∙ ap (λ b. filter p (cond b (x ∷ filter f xs) (filter f xs))) (sym h))
    (cases_Bool (f x))

all_need : (query : Query) (text : Browse × List ℕ) (rows : List (ℕ × Row)) → needed_text (tree_of query) ≡ Some text
    → AllByRecursion (λ row. is_selected (Some query) row.1 ≡ true → is_candidate text row.1 ≡ true) rows
all_need query text [] needed = tt
all_need query text (r ∷ rows) needed =
    (query_needs (tree_of query) text.0 text.1 r.1 needed, all_need query text rows needed)

pub candidates_suffice : CandidatesSuffice
candidates_suffice rows query text needed =
    filtered_twice (λ row. is_selected (Some query) row.1) (λ row. is_candidate text row.1) rows (all_need query text rows needed)

-- ---- values

all_kept : (P : List ℕ → Type 0) (p : List ℕ → Bool) (ts : List (List ℕ)) → AllByRecursion P ts → AllByRecursion P (filter p ts)
all_kept P p [] all = tt
all_kept P p (t ∷ ts) all = elim (p t) as (λ b. AllByRecursion P (cond b (t ∷ filter p ts) (filter p ts))) [
  | true ↦ (all.0, all_kept P p ts all.1)
  | false ↦ all_kept P p ts all.1
]

sorted_kept : (p : List ℕ → Bool) (ts : List (List ℕ)) → IsStrictlySortedBy by_bytes ts → IsStrictlySortedBy by_bytes (filter p ts)
unfolding IsStrictlySortedBy
sorted_kept p [] s = tt
sorted_kept p (t ∷ ts) s = elim (p t) as (λ b. IsStrictlySortedBy by_bytes (cond b (t ∷ filter p ts) (filter p ts))) [
  | true ↦ (all_kept (λ u. by_bytes t u ≡ Less) p ts s.0, sorted_kept p ts s.1)
  | false ↦ sorted_kept p ts s.1
]

among_kept : (q : List ℕ) (p : List ℕ → Bool) (ts : List (List ℕ)) → among q (filter p ts) ≡ (p q && among q ts)
among_kept q p ts =
    any-filter_same (is_at (by_bytes q)) p (p q) (λ t h. ap p (sym ((bytes_eq-Decides q t).0 (sym (is_eq-slice_cmp q t) ∙ h)))) ts

-- what passes both tests may be looked for by either first
swapped : {X : Type 0} (f a : X → Bool) (xs : List X) → list_any f (filter a xs) ≡ list_any a (filter f xs)
swapped f a [] = refl
swapped f a (x ∷ xs) = by_tests (f x) refl (a x) refl (swapped f a xs)
  where
    by_tests : (b : Bool) → f x ≡ b → (c : Bool) → a x ≡ c → list_any f (filter a xs) ≡ list_any a (filter f xs)
        → list_any f (cond c (x ∷ filter a xs) (filter a xs)) ≡ list_any a (cond b (x ∷ filter f xs) (filter f xs))
    by_tests true h true e rest = ap (λ b. b || list_any f (filter a xs)) h ∙ ap (λ b. b || list_any a (filter f xs)) (sym e)
    by_tests true h false e rest = rest ∙ ap (λ b. b || list_any a (filter f xs)) (sym e)
    by_tests false h true e rest = ap (λ b. b || list_any f (filter a xs)) h ∙ rest
    by_tests false h false e rest = rest

found_in_all : {X : Type 0} (f a : X → Bool) (xs : List X) → list_any a (filter f xs) ≡ true → list_any f xs ≡ true
found_in_all f a [] h = absurd (true≢false (sym h))
found_in_all f a (x ∷ xs) h =
    elim (f x) as (λ b. list_any a (cond b (x ∷ filter f xs) (filter f xs)) ≡ true → (b || list_any f xs) ≡ true) [
      | true ↦ λ h. refl
      | false ↦ λ h. found_in_all f a xs h
    ] h

and_implied : (b c : Bool) → (b ≡ true → c ≡ true) → b ≡ (b && c)
and_implied true c h = sym (h refl)
and_implied false c h = refl

abbrev texts : Browse → List (ℕ × Row) → List (List ℕ)
texts browse rs = filter is_filled (map (λ row. browse_text browse row.1) rs)

-- whether a query asks for an item with the value
abbrev asks : List Edit → Browse → Option Query → List ℕ → Bool
asks es browse query value = list_any (λ row. is_selected query row.1) (filter (λ row. finds spelled browse value row.1) (library es))

pub values_by_their_items : ValuesByTheirItems
values_by_their_items es browse query =
    same_texts (browse_values es browse query) (filter (asks es browse query) (browse_values es browse None))
    (sorted_sorted (texts browse (rows es Items query)))
    (sorted_kept (asks es browse query) (browse_values es browse None) (sorted_sorted (texts browse (library es))))
    (λ q. among_sorted q browse (rows es Items query)
    ∙ ap (list_any (λ row. finds spelled browse q row.1)) (rows_selected es query)
    ∙ swapped (λ row. finds spelled browse q row.1) (λ row. is_selected query row.1) (library es)
    ∙ and_implied (asks es browse query q) (list_any (λ row. finds spelled browse q row.1) (library es))
    (found_in_all (λ row. finds spelled browse q row.1) (λ row. is_selected query row.1) (library es))
    ∙ ap (λ b. asks es browse query q && b) (sym (among_sorted q browse (library es)))
    ∙ sym (among_kept q (asks es browse query) (browse_values es browse None)))
