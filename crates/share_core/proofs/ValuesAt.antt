-- The values of the items that match: how a loop finds them, that they are those of the rows, and that they are
-- short.
use Rattle.std.proofs.Common.{◌≡◌, ◌≤◌, ◌<◌, ◌+◌, ℕ, Bool, true, false, cond, List, [], ◌∷◌, length, get_or, drop, map, fold, filter, Option, Some, None, is_some, refl, sym, ap, ◌∙◌, subst, Less, Equal, Greater, nat_cmp, arith}
use Rattle.std.specs.List.{AllByRecursion, cons_option, list_any}
use Rattle.std.specs.Option.{option_map, option_and_then}
use Rattle.std.specs.Ordering.{match_ordering}
use Rattle.std.specs.Cmp.Lexicographic.{slice_cmp}
use Rattle.std.specs.BTreeSet.{insert_key}
use Rattle.std.specs.Map.{keys_of}
use Rattle.std.proofs.lemmas.List.{length-map}
use Rattle.dmap_tags.specs.Codes.{code}
use Rattle.dmap_tags.specs.Tree.{Tree}
use Rattle.dmap_tags.specs.Spelling.{spelling}
use Rattle.item_model.specs.declared.item.Row.{Row}
use Rattle.item_model.specs.declared.query.Query.{Query}
use Rattle.item_model.specs.declared.changes.Edit.{Edit}
use Rattle.item_model.specs.declared.request.Browse.{Browse}
use Rattle.item_model.specs.declared.request.Target.TheVariants.{Items}
use Rattle.share_history.specs.BrowseListings.{is_filled, sorted_texts, browse_values, value_tag}
use Rattle.share_history.specs.Keyed.{ascending, pairs_at, AreAscending}
use Rattle.share_history.specs.LastSaid.{item_at}
use Rattle.share_history.specs.Named.{named_keys}
use Rattle.share_history.specs.Rows.{row_at, rows, library, is_selected, if_selected}
use Rattle.share_history.proofs.EditFacts.{drop_more}
use Rattle.share_history.proofs.KeyedFacts.{has, has-keys_of, at-pairs_at, ascending-pairs_at}
use Rattle.share_history.proofs.RowFacts.{rows_are, at-library, ascending-library, folded-longer, length-rows}
use Rattle.listing_plan.proofs.Spelled.{framed_length}
use Rattle.prop_index.specs.Forms.{browse_text}
use Rattle.share_listings.specs.Answers.{AreCandidates}
use Rattle.share_core.specs.Short.{IsShort, AreShort, HasShortTexts}
use Rattle.share_core.specs.ValuesAt.{values_at}

-- ---- a loop over ids

filtered_cons : (put : List (List ℕ) → List ℕ → List (List ℕ)) (p : List ℕ → Bool) (set : List (List ℕ)) (t : List ℕ) (ts : List (List ℕ))
    → fold put (fold put set (filter p (t ∷ []))) (filter p ts) ≡ fold put set (filter p (t ∷ ts))
filtered_cons put p set t ts = elim (p t) as (λ b. fold put (fold put set (cond b (t ∷ []) [])) (filter p ts) ≡ fold put set (cond b (t ∷ filter p ts) (filter p ts))) [
  | true ↦ refl
  | false ↦ refl
]

first_value : (put : List (List ℕ) → List ℕ → List (List ℕ)) (p : List ℕ → Bool) (es : List Edit) (by : Browse) (q : Query) (set : List (List ℕ)) (id : ℕ) (ids : List ℕ)
    → fold put (fold put set (filter p (values_at es by q (id ∷ [])))) (filter p (values_at es by q ids)) ≡ fold put set (filter p (values_at es by q (id ∷ ids)))
first_value put p es by q set id ids =
    elim (row_at es Items (Some q) id) as (λ (o : Option Row).
    fold put (fold put set (filter p (map (λ (row : ℕ × Row). browse_text by row.1) (cons_option (option_map (λ (row : Row). (id, row)) o) [])))) (filter p (values_at es by q ids))
    ≡ fold put set (filter p (map (λ (row : ℕ × Row). browse_text by row.1) (cons_option (option_map (λ (row : Row). (id, row)) o) (pairs_at (row_at es Items (Some q)) ids))))) [
      | None ↦ refl
      | Some row ↦ filtered_cons put p set (browse_text by row) (values_at es by q ids)
    ]

pub values_left : (put : List (List ℕ) → List ℕ → List (List ℕ)) (p : List ℕ → Bool) (es : List Edit) (by : Browse) (q : Query) (set : List (List ℕ)) (ids : List ℕ) (i id : ℕ)
    → i < length ids → id ≡ get_or ids i id
    → fold put (fold put set (filter p (values_at es by q (id ∷ [])))) (filter p (values_at es by q (drop (i + 1) ids))) ≡ fold put set (filter p (values_at es by q (drop i ids)))
values_left put p es by q set ids i id lt is =
    first_value put p es by q set id (drop (i + 1) ids) ∙ ap (λ ks. fold put set (filter p (values_at es by q ks))) (sym (drop_more ids i id lt is))

-- ---- the rows from candidates

rows_from : (es : List Edit) (q : Option Query) (ids : List ℕ) → AreCandidates es q ids → pairs_at (row_at es Items q) ids ≡ rows es Items q
rows_from es q ids start =
    rows_are es Items q (pairs_at (row_at es Items q) ids) (ascending-pairs_at (row_at es Items q) ids start.ascending)
    (λ k. at-pairs_at k (row_at es Items q) ids ∙ there_or_not (has k ids) (row_at es Items q k) (start.others k))
  where
    there_or_not : (b : Bool) (v : Option Row) → (b ≡ false → v ≡ None) → cond b v None ≡ v
    there_or_not true v f = refl
    there_or_not false v f = sym (f refl)

pub values_found : (es : List Edit) (by : Browse) (q : Query) (ids : List ℕ) → AreCandidates es (Some q) ids
    → sorted_texts (filter is_filled (values_at es by q ids)) ≡ browse_values es by (Some q)
values_found es by q ids start = ap (λ (rs : List (ℕ × Row)). sorted_texts (filter is_filled (map (λ row. browse_text by row.1) rs))) (rows_from es (Some q) ids start)

-- ---- values are short, and not too many

abbrev pub IsShortText : List ℕ → Type 0
IsShortText text = length text ≤ 255

selected_item : (es : List Edit) (q : Option Query) (found : Option Row) (row : Row) → option_and_then (if_selected q) found ≡ Some row → found ≡ Some row
selected_item es q None row is = absurd (cc)
selected_item es q (Some found) row is = by_case (is_selected q found) is
  where
    by_case : (b : Bool) → cond b (Some found) None ≡ Some row → Some found ≡ Some row
    by_case true h = h
    by_case false h = absurd (cc)

short_rows : (es : List Edit) (by : Browse) (q : Option Query) (ids : List ℕ) → ((id : ℕ) (row : Row) → item_at es id ≡ Some row → HasShortTexts row)
    → AllByRecursion IsShortText (map (λ row. browse_text by row.1) (pairs_at (row_at es Items q) ids))
short_rows es by q [] short = tt
short_rows es by q (id ∷ ids) short =
    (elim (row_at es Items q id) as (λ (o : Option Row). row_at es Items q id ≡ o
    → AllByRecursion IsShortText (map (λ (row : ℕ × Row). browse_text by row.1) (cons_option (option_map (λ (row : Row). (id, row)) o) (pairs_at (row_at es Items q) ids)))) [
      | None ↦ λ is. short_rows es by q ids short
      | Some row ↦ λ is. (short id row (selected_item es q (item_at es id) row is) by, short_rows es by q ids short)
    ]) refl

short_filled : (texts : List (List ℕ)) → AllByRecursion IsShortText texts → AllByRecursion IsShortText (filter is_filled texts)
short_filled [] all = tt
short_filled (t ∷ texts) all = elim (is_filled t) as (λ b. AllByRecursion IsShortText (cond b (t ∷ filter is_filled texts) (filter is_filled texts))) [
  | true ↦ (all.0, short_filled texts all.1)
  | false ↦ short_filled texts all.1
]

short_inserted : (t : List ℕ) (texts : List (List ℕ)) → IsShortText t → AllByRecursion IsShortText texts → AllByRecursion IsShortText (insert_key (slice_cmp nat_cmp) texts t)
short_inserted t [] short all = (short, tt)
short_inserted t (x ∷ texts) short all =
    elim (slice_cmp nat_cmp t x) as (λ r. AllByRecursion IsShortText (match_ordering r (t ∷ x ∷ texts) (x ∷ texts) (x ∷ insert_key (slice_cmp nat_cmp) texts t))) [
      | Less ↦ (short, all)
      | Equal ↦ all
      | Greater ↦ (all.0, short_inserted t texts short all.1)
    ]

short_sorted : (set texts : List (List ℕ)) → AllByRecursion IsShortText set → AllByRecursion IsShortText texts → AllByRecursion IsShortText (fold (insert_key (slice_cmp nat_cmp)) set texts)
short_sorted set [] all more = all
short_sorted set (t ∷ texts) all more = short_sorted (insert_key (slice_cmp nat_cmp) set t) texts (short_inserted t set more.0 all) more.1

short_tags : (texts : List (List ℕ)) → AllByRecursion IsShortText texts → AreShort (map value_tag texts)
short_tags [] all = tt
short_tags (t ∷ texts) all = (omega (arith, framed_length (code "mlit") t, all.0), short_tags texts all.1)

pub values_short : (es : List Edit) (by : Browse) (q : Option Query) (tags : List Tree) → tags ≡ map value_tag (browse_values es by q)
    → ((id : ℕ) (row : Row) → item_at es id ≡ Some row → HasShortTexts row) → AreShort tags
values_short es by q tags is short =
    subst AreShort (sym is)
    (short_tags (browse_values es by q)
    (short_sorted [] (filter is_filled (map (λ row. browse_text by row.1) (rows es Items q))) tt
    (short_filled (map (λ row. browse_text by row.1) (rows es Items q)) (short_rows es by q (ascending (named_keys es)) short))))

few_filled : (ts : List (List ℕ)) → length (filter is_filled ts) ≤ length ts
few_filled [] = omega arith
few_filled (t ∷ ts) = elim (is_filled t) as (λ b. length (cond b (t ∷ filter is_filled ts) (filter is_filled ts)) ≤ length (t ∷ ts)) [
  | true ↦ omega (arith, few_filled ts)
  | false ↦ omega (arith, few_filled ts)
]

pub few_values : (es : List Edit) (by : Browse) (q : Option Query) (tags : List Tree) → tags ≡ map value_tag (browse_values es by q) → length tags ≤ length es
few_values es by q tags is =
    let texts : List (List ℕ) = map (λ row. browse_text by row.1) (rows es Items q) in
    omega (
      arith,
      ap length is,
      length-map (browse_values es by q) value_tag,
      folded-longer (slice_cmp nat_cmp) [] (filter is_filled texts),
      few_filled texts,
      length-map (rows es Items q) (λ (row : ℕ × Row). browse_text by row.1),
      length-rows es Items q,
    )

-- a listing may start from all items
pub library_starts : (es : List Edit) (q : Option Query) (ids : List ℕ) → ids ≡ keys_of (library es) → AreCandidates es q ids
library_starts es q ids all = record {
  ascending = subst AreAscending (sym all) (ascending-library es);
  others = λ id h.
      none_there (item_at es id) (sym (ap is_some (at-library es id)) ∙ sym (has-keys_of id (library es)) ∙ sym (ap (has id) all) ∙ h);
}
  where
    none_there : (found : Option Row) → is_some found ≡ false → option_and_then (if_selected q) found ≡ None
    none_there None h = refl
    none_there (Some row) h = absurd (cc)
