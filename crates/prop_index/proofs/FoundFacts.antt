-- The ids under a text are those of the rows that it finds.
use Rattle.std.proofs.Common.{◌≡◌, ℕ, Bool, true, false, cond, List, [], ◌∷◌, filter, Some, None, is_some, refl, sym, ap, ◌∙◌, subst, nat_cmp, is_eq, Less}
use Rattle.std.specs.Option.{option_map_or}
use Rattle.std.specs.Map.{keys_of}
use Rattle.std.specs.List.{AllByRecursion}
use Rattle.std.specs.List.Sorted.{IsStrictlySortedBy}
use Rattle.std.specs.BTreeMap.{is_at}
use Rattle.std.specs.Ordering.{ordering_reverse}
use Rattle.std.specs.Cmp.{nat_cmp_total}
use Rattle.std.proofs.lemmas.Cmp.{eq_by_cmp_equiv}
use Rattle.std.proofs.lemmas.Map.{lookup-none}
use Rattle.std.proofs.lemmas.Map.Keys.{IsDistinct-from_sorted, sorted_tail}
use Rattle.std.proofs.lemmas.Map.Entries.{none_past_head}
use Rattle.item_model.specs.declared.item.Row.{Row}
use Rattle.item_model.specs.declared.request.Browse.{Browse}
use Rattle.share_history.specs.Keyed.{at, IsAscending, AreAscending}
use Rattle.share_history.proofs.KeyedFacts.{has-keys_of, same_keys_same, ascending-filter, key_itself}
use Rattle.prop_index.specs.declared.index.PropIndex.{PropIndex}
use Rattle.prop_index.specs.IdSets.{has}
use Rattle.prop_index.specs.Forms.{Form, finds}
use Rattle.prop_index.specs.Index.{found, StandsFor}

past_head : {X : Type 0} (q : ℕ) (x : ℕ × X) (xs : List (ℕ × X)) → IsAscending (x ∷ xs) → is_eq (nat_cmp q x.0) ≡ true → at q xs ≡ None
past_head q x xs s t = lookup-none (is_at (nat_cmp q)) xs (none_past_head (eq_by_cmp_equiv nat_cmp_total) q x xs (IsDistinct-from_sorted nat_cmp _ s) t)

by_tests : {X : Type 0} (f : X → Bool) (q : ℕ) (e : ℕ × X) (es : List (ℕ × X)) → IsAscending (e ∷ es)
    → is_some (at q (filter (λ e. f e.1) es)) ≡ option_map_or f (at q es) false → (t : Bool) → f e.1 ≡ t → (b : Bool) → is_eq (nat_cmp q e.0) ≡ b
    → is_some (at q (cond t (e ∷ filter (λ e. f e.1) es) (filter (λ e. f e.1) es))) ≡ option_map_or f (cond b (Some e.1) (at q es)) false
by_tests f q e es s others true p true h = ap (λ b. is_some (cond b (Some e.1) (at q (filter (λ e. f e.1) es)))) h ∙ sym p
by_tests f q e es s others true p false h = ap (λ b. is_some (cond b (Some e.1) (at q (filter (λ e. f e.1) es)))) h ∙ others
by_tests f q e es s others false p true h = others ∙ ap (λ o. option_map_or f o false) (past_head q e es s h) ∙ sym p
by_tests f q e es s others false p false h = others

-- a filter by the values
pub some_filter : {X : Type 0} (f : X → Bool) (q : ℕ) (es : List (ℕ × X)) → IsAscending es → is_some (at q (filter (λ e. f e.1) es)) ≡ option_map_or f (at q es) false
some_filter f q [] s = refl
some_filter f q (e ∷ es) s =
    by_tests f q e es s (some_filter f q es (sorted_tail nat_cmp e.0 (keys_of es) s)) (f e.1) refl (is_eq (nat_cmp q e.0)) refl

-- ascending ids under a text are those of the rows that it finds
pub ids_found : (rows : List (ℕ × Row)) (index : PropIndex) (browse : Browse) (form : Form) (text ids : List ℕ)
    → IsAscending rows → StandsFor rows index → ids ≡ found index browse form text → AreAscending (found index browse form text)
    → ids ≡ keys_of (filter (λ row. finds form browse text row.1) rows)
ids_found rows index browse form text ids rising stands is sorted =
    same_keys_same ids (keys_of (filter (λ row. finds form browse text row.1) rows)) (subst AreAscending (sym is) sorted) (ascending-filter (λ row. finds form browse text row.1) rows rising)
    (λ q. ap (has q) is ∙ stands.found_by browse form text q
    ∙ sym (has-keys_of q (filter (λ row. finds form browse text row.1) rows) ∙ some_filter (finds form browse text) q rows rising))

-- ---- each row stands under its id

greater_not_equal : (q k : ℕ) → nat_cmp k q ≡ Less → is_eq (nat_cmp q k) ≡ false
greater_not_equal q k h = ap is_eq (nat_cmp_total.antisymm q k ∙ ap ordering_reverse h)

all_behind : {X : Type 0} (e : ℕ × X) (es xs : List (ℕ × X)) → AllByRecursion (λ k. nat_cmp e.0 k ≡ Less) (keys_of xs)
    → AllByRecursion (λ x. at x.0 es ≡ Some x.1) xs → AllByRecursion (λ x. at x.0 (e ∷ es) ≡ Some x.1) xs
all_behind e es [] above all = tt
all_behind e es (x ∷ xs) above all =
    (ap (λ b. cond b (Some e.1) (at x.0 es)) (greater_not_equal x.0 e.0 above.0) ∙ all.0, all_behind e es xs above.1 all.1)

pub each_stands : {X : Type 0} (es : List (ℕ × X)) → IsAscending es → AllByRecursion (λ e. at e.0 es ≡ Some e.1) es
unfolding IsStrictlySortedBy
each_stands [] s = tt
each_stands (e ∷ es) s =
    (ap (λ b. cond b (Some e.1) (at e.0 es)) (key_itself e.0), all_behind e es es s.0 (each_stands es s.1))
