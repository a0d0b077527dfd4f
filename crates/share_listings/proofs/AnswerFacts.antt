-- The rows that are asked for, taken one key after another.
use Rattle.std.proofs.Common.{◌≡◌, ◌<◌, ◌≤◌, ◌+◌, ◌*◌, ◌++◌, ◌∷◌, [], ◌==◌, ℕ, suc, List, Bool, true, false, cond, Option, Some, None, is_some, filter, map, take, All, length, get_or, unwrap_or, if◌then◌else◌, refl, sym, subst, ap, ◌∙◌, arith, append-nil}
use Rattle.std.specs.Option.{option_map, option_and_then}
use Rattle.std.specs.List.{cons_option}
use Rattle.std.specs.Map.{keys_of}
use Rattle.std.specs.Ordering.{nat_cmp}
use Rattle.std.proofs.lemmas.List.{length-map, take_more}
use Rattle.std.proofs.lemmas.List.Elements.{filter-append, filter_map-append, All-cons}
use Rattle.item_model.specs.declared.changes.Edit.{Edit}
use Rattle.item_model.specs.declared.item.Row.{Row}
use Rattle.item_model.specs.declared.query.Query.{Query}
use Rattle.item_model.specs.declared.request.Look.{Look}
use Rattle.item_model.specs.declared.request.Target.{Target}
use Rattle.item_model.specs.declared.request.Target.TheVariants.{Items, Container}
use Rattle.share_history.specs.Histories.{edits, later}
use Rattle.share_history.specs.Keyed.{AreAscending, ascending, pairs_at}
use Rattle.share_history.specs.Kept.{is_kept, touches, touched}
use Rattle.share_history.specs.LastSaid.{Playlist, Plain, Ruled, only_if, item_at, list_at, member_at}
use Rattle.share_history.specs.Listings.{member_of, listing, full_listing, delta_listing}
use Rattle.share_history.specs.Named.{named_keys}
use Rattle.share_history.specs.Numbers.{base_list}
use Rattle.share_history.specs.Rows.{rows, row_at, library, is_selected, if_selected, in_list, in_target}
use Rattle.share_history.proofs.KeyedFacts.{has, has-keys_of, at-pairs_at, ascending-pairs_at, sorted-filter, sorted-ascending, few_pairs}
use Rattle.share_history.proofs.OwnFacts.{item_id, selected_some}
use Rattle.share_history.proofs.RowFacts.{at-rows, ascending-rows, rows_are, folded-longer, few_keys}
use Rattle.share_history.proofs.RangeFacts.{length-filter}
use Rattle.listing_plan.specs.declared.row.PlanRow.{PlanRow}
use Rattle.listing_plan.specs.Plans.{key_of, keyed, AreRowsOf, AreGone}
use Rattle.playlist_store.specs.Words.{pair_of}
use Rattle.playlist_store.specs.declared.head.Member.{Member}
use Rattle.share_listings.specs.Answers.{AreCandidates, is_library, looked_at, most_ticks}
use Rattle.share_listings.specs.Memberships.{AreMembersOf}
use Rattle.share_listings.proofs.MembershipFacts.{library_rows}
use Rattle.share_listings.proofs.PlanFacts.{keys_keyed, counted}

-- ---- one key more

-- the pairs at some keys and at one more
pub pairs_more : (f : ℕ → Option Row) (keys : List ℕ) (i key : ℕ) → i < length keys → key ≡ get_or keys i key
    → pairs_at f (take (i + 1) keys) ≡ pairs_at f (take i keys) ++ pairs_at f (key ∷ [])
pairs_more f keys i key lt is =
    ap (pairs_at f) (take_more keys i key lt ∙ ap (λ k. take i keys ++ k ∷ []) (sym is)) ∙ filter_map-append (λ k. option_map (λ row. (k, row)) (f k)) (take i keys) (key ∷ [])

-- the same at the keys of members
pub members_more : (f : ℕ → Option Row) (members : List Member) (i : ℕ) (member : Member) → i < length members → member ≡ get_or members i member
    → pairs_at f (map (λ member. member.key) (take (i + 1) members)) ≡ pairs_at f (map (λ member. member.key) (take i members)) ++ pairs_at f (member.key ∷ [])
members_more f members i member lt is =
    ap (λ ms. pairs_at f (map (λ (m : Member). m.key) ms)) (take_more members i member lt ∙ ap (λ m. take i members ++ m ∷ []) (sym is))
    ∙ ap (pairs_at f) (map_more (take i members) member)
    ∙ filter_map-append (λ k. option_map (λ row. (k, row)) (f k)) (map (λ (m : Member). m.key) (take i members)) (member.key ∷ [])
  where
    map_more : (ms : List Member) (m : Member) → map (λ (m : Member). m.key) (ms ++ m ∷ []) ≡ map (λ (m : Member). m.key) ms ++ m.key ∷ []
    map_more [] m = refl
    map_more (first ∷ ms) m = ap (λ ks. first.key ∷ ks) (map_more ms m)

abbrev one_pair : ℕ → Option Row → List (ℕ × Row)
one_pair key found = cons_option (option_map (λ row. (key, row)) found) []

-- a row tells the key under which it stands
pub key_shown : (es : List Edit) (t : Target) (key : ℕ) (row : Row) → in_target es t key ≡ Some row → unwrap_or (member_of t key) row.id ≡ key
key_shown es Items key row is = item_id es key row is
key_shown es (Container c) key row is = refl

asked_pair : (shown key : ℕ) (row : Row) (b : Bool) → shown ≡ key → cond b ((shown, row) ∷ []) [] ≡ one_pair key (only_if b row)
asked_pair shown key row true is = ap (λ k. (k, row) ∷ []) is
asked_pair shown key row false is = refl

-- what a key adds whose item is there: its row, if it is asked for
pub asked_more : (es : List Edit) (t : Target) (q : Option Query) (key : ℕ) (member : Option ℕ) (row : Row) (old new : List (ℕ × Row)) → member ≡ member_of t key
    → in_target es t key ≡ Some row → new ≡ old ++ (if is_selected q row then (unwrap_or member row.id, row) ∷ [] else []) → new ≡ old ++ pairs_at (row_at es t q) (key ∷ [])
asked_more es t q key member row old new is found pushed =
    pushed
    ∙ ap (λ l. old ++ l)
    (asked_pair (unwrap_or member row.id) key row (is_selected q row) (ap (λ m. unwrap_or m row.id) is ∙ key_shown es t key row found)
    ∙ ap (λ o. one_pair key (option_and_then (if_selected q) o)) (sym found))

-- and one whose item is not there: nothing
pub none_more : (es : List Edit) (t : Target) (q : Option Query) (key : ℕ) (old : List (ℕ × Row)) → in_target es t key ≡ None
    → old ≡ old ++ pairs_at (row_at es t q) (key ∷ [])
none_more es t q key old none = sym (ap (λ o. old ++ one_pair key (option_and_then (if_selected q) o)) none ∙ append-nil old)

-- ---- keys from which a full listing may start

-- they ascend, and under no other key there is a row that is asked for
pub record Starts (es : List Edit) (t : Target) (q : Option Query) (keys : List ℕ) : Type 0 where
  pub ascending : AreAscending keys
  pub others : (k : ℕ) → has k keys ≡ false → row_at es t q k ≡ None

-- candidates are such where the rows are all items
pub candidates_start : (es : List Edit) (t : Target) (q : Option Query) (ids : List ℕ) → is_library t ≡ true → AreCandidates es q ids → Starts es t q ids
candidates_start es t q ids all h = record { ascending = h.ascending; others = λ k out. library_rows es t q k all ∙ h.others k out }

none_asked : (q : Option Query) (found : Option Row) → is_some (option_and_then (if_selected None) found) ≡ false → option_and_then (if_selected q) found ≡ None
none_asked q None h = refl
none_asked q (Some row) h = absurd (cc)

-- where there is no row without a query, there is none with one
unlisted : (es : List Edit) (t : Target) (q : Option Query) (k : ℕ) → has k (keys_of (rows es t None)) ≡ false → row_at es t q k ≡ None
unlisted es t q k h =
    none_asked q (in_target es t k) (sym (ap is_some (at-rows es t None k)) ∙ sym (has-keys_of k (rows es t None)) ∙ h)

rows_start : (es : List Edit) (t : Target) (q : Option Query) → Starts es t q (keys_of (rows es t None))
rows_start es t q = record { ascending = ascending-rows es t None; others = unlisted es t q }

-- the ids of the library are candidates
pub library_starts : (es : List Edit) (q : Option Query) (ids : List ℕ) → ids ≡ keys_of (library es) → AreCandidates es q ids
library_starts es q ids all =
    let start = subst (Starts es Items q) (sym all) (rows_start es Items q) in
    record { ascending = start.ascending; others = start.others }

-- the rows at such keys are all rows
pub rows_from : (es : List Edit) (t : Target) (q : Option Query) (keys : List ℕ) → Starts es t q keys → pairs_at (row_at es t q) keys ≡ rows es t q
rows_from es t q keys start =
    rows_are es t q (pairs_at (row_at es t q) keys) (ascending-pairs_at (row_at es t q) keys start.ascending)
    (λ k. at-pairs_at k (row_at es t q) keys ∙ there_or_not (has k keys) (row_at es t q k) (start.others k))
  where
    there_or_not : (b : Bool) (v : Option Row) → (b ≡ false → v ≡ None) → cond b v None ≡ v
    there_or_not true v f = refl
    there_or_not false v f = sym (f refl)

-- ---- the members that a store of lists tells

-- their keys are those of the list's rows
pub member_keys : (members : List Member) (rs : List (ℕ × Row)) → map pair_of members ≡ map (λ row. (row.0, row.1.id)) rs
    → map (λ member. member.key) members ≡ keys_of rs
member_keys members rs h = first_of_members members ∙ ap (map (λ (p : ℕ × ℕ). p.0)) h ∙ first_of_rows rs
  where
    first_of_members : (ms : List Member) → map (λ (m : Member). m.key) ms ≡ map (λ (p : ℕ × ℕ). p.0) (map pair_of ms)
    first_of_members [] = refl
    first_of_members (m ∷ ms) = ap (λ ks. m.key ∷ ks) (first_of_members ms)

    first_of_rows : (rs : List (ℕ × Row)) → map (λ (p : ℕ × ℕ). p.0) (map (λ (row : ℕ × Row). (row.0, row.1.id)) rs) ≡ keys_of rs
    first_of_rows [] = refl
    first_of_rows (row ∷ rs) = ap (λ ks. row.0 ∷ ks) (first_of_rows rs)

pub members_start : (es : List Edit) (t : Target) (q : Option Query) (members : List Member)
    → map pair_of members ≡ map (λ row. (row.0, row.1.id)) (rows es t None) → Starts es t q (map (λ member. member.key) members)
members_start es t q members h = subst (Starts es t q) (sym (member_keys members (rows es t None) h)) (rows_start es t q)

own_item : (es : List Edit) (id : ℕ) (row : Row) → item_at es id ≡ Some row → item_at es row.id ≡ Some row
own_item es id row is = ap (item_at es) (item_id es id row is) ∙ is

own_member : (es : List Edit) (member : Option ℕ) (row : Row) → option_and_then (item_at es) member ≡ Some row → item_at es row.id ≡ Some row
own_member es None row is = absurd (cc)
own_member es (Some id) row is = own_item es id row is

own_listed : (es : List Edit) (list : Option Playlist) (c key : ℕ) (row : Row) → in_list list es c key ≡ Some row → item_at es row.id ≡ Some row
own_listed es None c key row is = absurd (cc)
own_listed es (Some (Plain name)) c key row is = own_member es (member_at es c key) row is
own_listed es (Some (Ruled name rule)) c key row is = own_item es key row (selected_some (Some rule) (item_at es key) row is)

pub own_row : (es : List Edit) (t : Target) (key : ℕ) (row : Row) → in_target es t key ≡ Some row → item_at es row.id ≡ Some row
own_row es Items key row is = own_item es key row is
own_row es (Container c) key row is = either (c == base_list) is
  where
    either : (b : Bool) → cond b (item_at es key) (in_list (list_at es c) es c key) ≡ Some row → item_at es row.id ≡ Some row
    either true is = own_item es key row is
    either false is = own_listed es (list_at es c) c key row is

-- the item of each row under its key is that of the row's id
abbrev IsAt : List Edit → Target → ℕ × ℕ → Type 0
IsAt es t pair = in_target es t pair.0 ≡ item_at es pair.1

abbrev id_pair : ℕ × Row → ℕ × ℕ
id_pair row = (row.0, row.1.id)

id_more : (es : List Edit) (t : Target) (key : ℕ) (rest : List (ℕ × Row)) (found : Option Row) → in_target es t key ≡ found → All (IsAt es t) (map id_pair rest)
    → All (IsAt es t) (map id_pair (cons_option (option_map (λ row. (key, row)) (option_and_then (if_selected None) found)) rest))
id_more es t key rest None is all = all
id_more es t key rest (Some row) is all = All-cons (IsAt es t) (key, row.id) (map id_pair rest) (is ∙ sym (own_row es t key row is)) all

pairs_at_ids : (es : List Edit) (t : Target) (keys : List ℕ) → All (IsAt es t) (map id_pair (pairs_at (row_at es t None) keys))
pairs_at_ids es t [] = λ i d lt. absurd (omega arith)
pairs_at_ids es t (key ∷ keys) = id_more es t key (pairs_at (row_at es t None) keys) (in_target es t key) refl (pairs_at_ids es t keys)

told_members : (es : List Edit) (t : Target) (members : List Member) → All (IsAt es t) (map pair_of members) → AreMembersOf es t members
told_members es t [] all = λ i d lt. absurd (omega arith)
told_members es t (member ∷ members) all =
    All-cons (λ (m : Member). in_target es t m.key ≡ item_at es m.item) member members (all 0 (0, 0) (omega arith))
    (told_members es t members (λ i d lt. all (suc i) d (omega (arith, lt))))

pub members_are : (es : List Edit) (t : Target) (members : List Member)
    → map pair_of members ≡ map (λ row. (row.0, row.1.id)) (rows es t None) → AreMembersOf es t members
members_are es t members h = told_members es t members (subst (All (IsAt es t)) (sym h) (pairs_at_ids es t (ascending (named_keys es))))

pub members_count : (members : List Member) (rs : List (ℕ × Row)) → map pair_of members ≡ map (λ row. (row.0, row.1.id)) rs → length members ≡ length rs
members_count members rs h = sym (length-map members pair_of) ∙ ap length h ∙ length-map rs id_pair

-- a list that is not there has no rows
pub rows_unlisted : (es : List Edit) (c : ℕ) → (c == base_list) ≡ false → list_at es c ≡ None → rows es (Container c) None ≡ []
rows_unlisted es c other none = no_pairs (ascending (named_keys es))
  where
    no_row : (k : ℕ) → row_at es (Container c) None k ≡ None
    no_row k =
        ap (λ b. option_and_then (if_selected None) (cond b (item_at es k) (in_list (list_at es c) es c k))) other
        ∙ ap (λ l. option_and_then (if_selected None) (in_list l es c k)) none

    no_pairs : (ks : List ℕ) → pairs_at (row_at es (Container c) None) ks ≡ []
    no_pairs [] = refl
    no_pairs (k ∷ ks) = ap (λ o. cons_option (option_map (λ row. (k, row)) o) (pairs_at (row_at es (Container c) None) ks)) (no_row k) ∙ no_pairs ks

none_there : {X Y : Type 0} (x : Y) (found : Option X) → None ≡ option_map (λ _. x) found → found ≡ None
none_there x None h = refl
none_there x (Some y) h = absurd (cc)

pub no_members : (es : List Edit) (c : ℕ) (members : List Member) → (c == base_list) ≡ false → members ≡ []
    → None ≡ option_map (λ _. map id_pair (rows es (Container c) None)) (list_at es c) → map pair_of members ≡ map id_pair (rows es (Container c) None)
no_members es c members other none unlisted =
    ap (map pair_of) none
    ∙ sym (ap (map id_pair) (rows_unlisted es c other (none_there (map id_pair (rows es (Container c) None)) (list_at es c) unlisted)))

-- ---- the keys that are deleted

pub gone_more : (p : ℕ → Bool) (keys : List ℕ) (i key : ℕ) → i < length keys → key ≡ get_or keys i key
    → filter p (take (i + 1) keys) ≡ filter p (take i keys) ++ filter p (key ∷ [])
gone_more p keys i key lt is =
    ap (filter p) (take_more keys i key lt ∙ ap (λ k. take i keys ++ k ∷ []) (sym is)) ∙ filter-append p (take i keys) (key ∷ [])

-- ---- how many there are

pub few_touched : (bs : List (List Edit)) (t : Target) (base : ℕ) → length (touched bs t base) ≤ length (edits bs)
few_touched bs t base =
    omega (arith, length-filter (touches (edits bs) t (later bs base)) (ascending (named_keys (edits bs))), folded-longer nat_cmp [] (named_keys (edits bs)), few_keys (edits bs))

pub sorted-touched : (bs : List (List Edit)) (t : Target) (base : ℕ) → AreAscending (touched bs t base)
sorted-touched bs t base = sorted-filter (touches (edits bs) t (later bs base)) (ascending (named_keys (edits bs))) (sorted-ascending (named_keys (edits bs)))

-- ---- rows that can be planned

fit_at : (t : Target) (f : ℕ → Option Row) (keys : List ℕ) (found : List PlanRow) → keyed found ≡ pairs_at f keys
    → All (λ row. row.member ≡ member_of t (key_of row)) found → AreAscending keys → length (keyed found) ≤ 262144 → AreRowsOf t found
fit_at t f keys found is members sorted few = record {
  members = members;
  ascending = subst AreAscending (sym (keys_keyed found ∙ ap keys_of is)) (ascending-pairs_at f keys sorted);
  few = omega (arith, counted found, few);
}

-- rows under touched keys can be planned, whatever is listed under each
pub delta_fit : (bs : List (List Edit)) (t : Target) (f : ℕ → Option Row) (base : ℕ) (keys : List ℕ) (found : List PlanRow) → keys ≡ touched bs t base
    → keyed found ≡ pairs_at f keys → All (λ row. row.member ≡ member_of t (key_of row)) found → length (edits bs) ≤ 262144 → AreRowsOf t found
delta_fit bs t f base keys found all is members few =
    fit_at t f keys found is members (subst AreAscending (sym all) (sorted-touched bs t base))
    (omega (arith, ap length is, few_pairs f keys, ap length all, few_touched bs t base, few))

pub gone_fit : (bs : List (List Edit)) (t : Target) (p : ℕ → Bool) (base : ℕ) (keys gone : List ℕ) → keys ≡ touched bs t base → gone ≡ filter p keys
    → length (edits bs) ≤ 262144 → AreGone gone
gone_fit bs t p base keys gone all is few = record {
  ascending = subst AreAscending (sym (is ∙ ap (filter p) all)) (sorted-filter p (touched bs t base) (sorted-touched bs t base));
  few = omega (arith, ap length is, length-filter p keys, ap length all, few_touched bs t base, few);
}

-- ---- the listings

-- the delta if the base is kept, or else all rows
pub listing_kept : (keep : ℕ) (bs : List (List Edit)) (t : Target) (look : Look) → is_kept keep bs t look.base ≡ true → delta_listing bs t look look.base ≡ listing keep bs t look
listing_kept keep bs t look kept = ap (λ b. if b then delta_listing bs t look look.base else full_listing bs t look) (sym kept)

pub listing_lost : (keep : ℕ) (bs : List (List Edit)) (t : Target) (look : Look) → is_kept keep bs t look.base ≡ false → full_listing bs t look ≡ listing keep bs t look
listing_lost keep bs t look lost = ap (λ b. if b then delta_listing bs t look look.base else full_listing bs t look) (sym lost)

-- ---- what a listing costs

pub ticks_kept : (keep : ℕ) (bs : List (List Edit)) (t : Target) (base : ℕ) (from : Option (List ℕ)) → is_kept keep bs t base ≡ true
    → most_ticks keep bs t base from ≡ 4 * length (touched bs t base)
ticks_kept keep bs t base from kept = ap (λ b. if b then 4 * length (touched bs t base) else looked_at (edits bs) t from) kept

pub ticks_lost : (keep : ℕ) (bs : List (List Edit)) (t : Target) (base : ℕ) (from : Option (List ℕ)) → is_kept keep bs t base ≡ false
    → most_ticks keep bs t base from ≡ looked_at (edits bs) t from
ticks_lost keep bs t base from lost = ap (λ b. if b then 4 * length (touched bs t base) else looked_at (edits bs) t from) lost

-- from candidates of all items
pub looked_at-some : (es : List Edit) (t : Target) (ids : List ℕ) (from : Option (List ℕ)) → from ≡ Some ids → is_library t ≡ true → looked_at es t from ≡ length ids
looked_at-some es t ids from is all = ap (looked_at es t) is ∙ ap (λ b. if b then length ids else length (rows es t None)) all

-- a list is not read from candidates
pub looked_at-list : (es : List Edit) (t : Target) (list : ℕ) (from : Option (List ℕ)) → t ≡ Container list → (list == base_list) ≡ false
    → looked_at es t from ≡ looked_at es t None
looked_at-list es t list None is other = refl
looked_at-list es t list (Some ids) is other = ap (λ b. if b then length ids else length (rows es t None)) (ap is_library is ∙ other)
