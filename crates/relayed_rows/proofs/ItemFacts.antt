-- Properties in the order of listings: an item that gets them one by one, and an item made of its own values.
use Rattle.std.proofs.Common.{◌≡◌, ◌≢◌, ◌==◌, ◌&&◌, ◌+◌, ◌≤◌, ◌<◌, ◌++◌, ℕ, Bool, true, false, cond, nat_lt, nat_le, List, [], ◌∷◌, fold, Option, Some, None, refl, sym, ap, ◌∙◌, append_assoc, append-nil, arith}
use Rattle.std.specs.List.{cons_option, filter_map}
use Rattle.std.specs.Option.{option_map}
use Rattle.std.proofs.lemmas.Bool.{and_parts, and_from, ltb-true, lt-ltb, leb-true, le-leb, eqb-true, eqb-false, ne_eqb}
use Rattle.dmap_tags.specs.Tree.{Tree}
use Rattle.item_model.specs.declared.property.Property.{Property}
use Rattle.item_model.specs.declared.item.PropValue.{PropValue}
use Rattle.item_model.specs.Items.{is_value_of, rises_from, value_of, with_value}
use Rattle.item_model.specs.Properties.{all_properties, property_count, rank_of, is_same}
use Rattle.item_model.proofs.Ranks.{same_property, rank_below}
use Rattle.relayed_rows.specs.ReadRows.{first_told, item_told}
use Rattle.relayed_rows.specs.Putting.{with_told, put_told, put_all_told}

abbrev Entry : Type 0
Entry = Property × PropValue

-- the properties from a rank on, to the last one
abbrev pub ranks_from : ℕ → List Property → Bool
ranks_from n [] = n == property_count
ranks_from n (p ∷ ps) = (rank_of p == n) && ranks_from (n + 1) ps

pub all_ranks : ranks_from 0 all_properties ≡ true
all_ranks = refl

pub first_rank : (n : ℕ) (p : Property) (ps : List Property) → ranks_from n (p ∷ ps) ≡ true → rank_of p ≡ n
first_rank n p ps h = eqb-true (rank_of p) n (and_parts (rank_of p == n) (ranks_from (n + 1) ps) h).0

pub later_ranks : (n : ℕ) (p : Property) (ps : List Property) → ranks_from n (p ∷ ps) ≡ true → ranks_from (n + 1) ps ≡ true
later_ranks n p ps h = (and_parts (rank_of p == n) (ranks_from (n + 1) ps) h).1

-- ---- properties that are put one after the other

-- all ranks are below one
abbrev below : ℕ → List Entry → Bool
below n [] = true
below n (e ∷ item) = nat_lt (rank_of e.0) n && below n item

below_weaker : (n m : ℕ) (item : List Entry) → n ≤ m → below n item ≡ true → below m item ≡ true
below_weaker n m [] le h = refl
below_weaker n m (e ∷ item) le h =
    let parts = and_parts (nat_lt (rank_of e.0) n) (below n item) h in
    let lt : rank_of e.0 < n = ltb-true _ _ parts.0 in
    and_from _ _ (lt-ltb _ _ (omega arith)) (below_weaker n m item le parts.1)

below_more : (n : ℕ) (item : List Entry) (e : Entry) → rank_of e.0 < n → below n item ≡ true → below n (item ++ e ∷ []) ≡ true
below_more n [] e lt h = and_from _ _ (lt-ltb _ _ lt) refl
below_more n (d ∷ item) e lt h =
    let parts = and_parts (nat_lt (rank_of d.0) n) (below n item) h in and_from _ _ parts.0 (below_more n item e lt parts.1)

-- a property after all others is put last
put_last : (p : Property) (v : PropValue) (item : List Entry) → below (rank_of p) item ≡ true → with_value p v item ≡ item ++ (p, v) ∷ []
put_last p v [] h = refl
put_last p v (e ∷ item) h =
    let parts = and_parts (nat_lt (rank_of e.0) (rank_of p)) (below (rank_of p) item) h in
    ap (λ b. cond b (e ∷ with_value p v item) (cond (is_same e.0 p) ((p, v) ∷ item) ((p, v) ∷ e ∷ item))) parts.0 ∙ ap (λ es. e ∷ es) (put_last p v item parts.1)

abbrev told_entry : List Tree → Property → Option Entry
told_entry tags p = option_map (λ v. (p, v)) (first_told p tags)

put_on : (tags : List Tree) (n : ℕ) (item : List Entry) (ps : List Property) → ranks_from n ps ≡ true → below n item ≡ true
    → put_all_told tags item ps ≡ item ++ filter_map (told_entry tags) ps
put_on tags n item [] h k = sym (append-nil item)
put_on tags n item (p ∷ ps) h k =
    let rank : rank_of p ≡ n = first_rank n p ps h in
    let later : ranks_from (n + 1) ps ≡ true = later_ranks n p ps h in
    let under : below (rank_of p) item ≡ true = below_weaker n (rank_of p) item (omega arith) k in
    elim (first_told p tags) as (λ o. fold (put_told tags) (with_told p o item) ps ≡ item ++ cons_option (option_map (λ v. (p, v)) o) (filter_map (told_entry tags) ps)) [
      | None ↦ put_on tags (n + 1) item ps later (below_weaker n (n + 1) item (omega arith) k)
      | Some v ↦ ap (λ es. fold (put_told tags) es ps) (put_last p v item under)
          ∙ put_on tags (n + 1) (item ++ (p, v) ∷ []) ps later (below_more (n + 1) item (p, v) (omega arith) (below_weaker n (n + 1) item (omega arith) k))
          ∙ append_assoc item ((p, v) ∷ []) (filter_map (told_entry tags) ps)
    ]

-- putting all properties that the tags state into an empty item gives the item that they state
pub all_put : (tags : List Tree) → put_all_told tags [] all_properties ≡ item_told tags
all_put tags = put_on tags 0 [] all_properties all_ranks refl

-- ---- an item by its values

abbrev pub own_entry : List Entry → Property → Option Entry
own_entry item p = option_map (λ v. (p, v)) (value_of p item)

-- no property before the first has a value
lacks : (p : Property) (n : ℕ) (item : List Entry) → rises_from n item ≡ true → rank_of p < n → value_of p item ≡ None
lacks p n [] h lt = refl
lacks p n (e ∷ item) h lt =
    let parts = and_parts (nat_le n (rank_of e.0)) (is_value_of e.0 e.1 && rises_from (rank_of e.0 + 1) item) h in
    let later = (and_parts (is_value_of e.0 e.1) (rises_from (rank_of e.0 + 1) item) parts.1).1 in
    let first : n ≤ rank_of e.0 = leb-true _ _ parts.0 in
    let other : is_same e.0 p ≡ false = ne_eqb (rank_of e.0) (rank_of p) (λ same. absurd (omega arith)) in
    ap (λ b. cond b (Some e.1) (value_of p item)) other ∙ lacks p (rank_of e.0 + 1) item later (omega arith)

-- the later properties are those of the later entries
behind_first : (n : ℕ) (e : Entry) (item : List Entry) (ps : List Property) → rank_of e.0 < n → ranks_from n ps ≡ true
    → filter_map (own_entry (e ∷ item)) ps ≡ filter_map (own_entry item) ps
behind_first n e item [] lt h = refl
behind_first n e item (p ∷ ps) lt h =
    let rank : rank_of p ≡ n = first_rank n p ps h in
    let other : is_same e.0 p ≡ false = ne_eqb (rank_of e.0) (rank_of p) (λ same. absurd (omega arith)) in
    ap (λ b. cons_option (option_map (λ v. (p, v)) (cond b (Some e.1) (value_of p item))) (filter_map (own_entry (e ∷ item)) ps)) other
    ∙ ap (cons_option (own_entry item p)) (behind_first (n + 1) e item ps (omega arith) (later_ranks n p ps h))

no_values : (ps : List Property) → filter_map (own_entry []) ps ≡ []
no_values [] = refl
no_values (p ∷ ps) = no_values ps

first_picked : (e : Entry) (p : Property) (item rest : List Entry) → is_same e.0 p ≡ true
    → cons_option (option_map (λ v. (p, v)) (cond (is_same e.0 p) (Some e.1) (value_of p item))) rest ≡ e ∷ rest
first_picked e p item rest same =
    ap (λ b. cons_option (option_map (λ v. (p, v)) (cond b (Some e.1) (value_of p item))) rest) same ∙ ap (λ q. (q, e.1) ∷ rest) (sym (same_property e.0 p same))

-- an item whose ranks rise has, property by property, its entries
pub picked : (n : ℕ) (item : List Entry) (ps : List Property) → rises_from n item ≡ true → ranks_from n ps ≡ true → filter_map (own_entry item) ps ≡ item
picked n [] ps h k = no_values ps
picked n (e ∷ item) [] h k =
    let parts = and_parts (nat_le n (rank_of e.0)) (is_value_of e.0 e.1 && rises_from (rank_of e.0 + 1) item) h in
    let first : n ≤ rank_of e.0 = leb-true _ _ parts.0 in
    let last : n ≡ property_count = eqb-true n property_count k in
    absurd (omega (arith, rank_below e.0))
picked n (e ∷ item) (p ∷ ps) h k =
    let parts = and_parts (nat_le n (rank_of e.0)) (is_value_of e.0 e.1 && rises_from (rank_of e.0 + 1) item) h in
    let valid = and_parts (is_value_of e.0 e.1) (rises_from (rank_of e.0 + 1) item) parts.1 in
    let first : n ≤ rank_of e.0 = leb-true _ _ parts.0 in
    let rank : rank_of p ≡ n = first_rank n p ps k in
    let later : ranks_from (n + 1) ps ≡ true = later_ranks n p ps k in
    elim (is_same e.0 p) as (λ b. is_same e.0 p ≡ b → cons_option (option_map (λ v. (p, v)) (cond (is_same e.0 p) (Some e.1) (value_of p item))) (filter_map (own_entry (e ∷ item)) ps) ≡ e ∷ item) [
      | true ↦ λ same.
          let equal : rank_of e.0 ≡ rank_of p = eqb-true (rank_of e.0) (rank_of p) same in
          let one : rank_of e.0 + 1 ≡ n + 1 = omega arith in
          first_picked e p item (filter_map (own_entry (e ∷ item)) ps) same
          ∙ ap (λ es. e ∷ es) (behind_first (n + 1) e item ps (omega arith) later ∙ picked (n + 1) item ps (sym (ap (λ m. rises_from m item) one) ∙ valid.1) later)
      | false ↦ λ other.
          let unlike : rank_of e.0 ≢ rank_of p = eqb-false (rank_of e.0) (rank_of p) other in
          let above : n + 1 ≤ rank_of e.0 = omega (arith, first, rank, unlike) in
          ap (λ b. cons_option (option_map (λ v. (p, v)) (cond b (Some e.1) (value_of p item))) (filter_map (own_entry (e ∷ item)) ps)) other
          ∙ ap (λ o. cons_option (option_map (λ v. (p, v)) o) (filter_map (own_entry (e ∷ item)) ps)) (lacks p (rank_of e.0 + 1) item valid.1 (omega arith))
          ∙ picked (n + 1) (e ∷ item) ps (and_from _ _ (le-leb _ _ above) parts.1) later
    ] refl
