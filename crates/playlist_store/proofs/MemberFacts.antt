-- The members of a list: the item under each key is that of the row, and ascending pairs that are right under each
-- key are those of the rows.
use Rattle.std.proofs.Common.{◌≡◌, ◌==◌, ℕ, ◌+◌, ◌<◌, ◌≤◌, ◌++◌, ◌∷◌, length, get_or, drop, add-one, drop-cons, append-nil, Ok, Err, Bool, true, false, cond, List, map, Option, Some, None, is_some, refl, sym, ap, ◌∙◌}
use Rattle.std.specs.Prelude.{Result, IfOk}
use Rattle.std.specs.Option.{option_and_then, option_map, option_to_list}
use Rattle.std.specs.List.{cons_option}
use Rattle.std.proofs.lemmas.List.{drop_all}
use Rattle.item_store.specs.Store.{Store}
use Rattle.item_store.specs.Stands.{StandsFor}
use Rattle.key_versions.specs.Found.{newest_value}
use Rattle.key_versions.specs.Held.{Held, versions_at, AreKeys}
use Rattle.share_history.specs.Histories.{edits}
use Rattle.share_history.proofs.FoldFacts.{found_next}
use Rattle.item_model.specs.declared.item.Row.{Row}
use Rattle.item_model.specs.declared.query.Query.{Query}
use Rattle.item_model.specs.declared.changes.Edit.{Edit}
use Rattle.item_model.specs.declared.request.Target.TheVariants.{Container}
use Rattle.share_history.specs.Numbers.{base_list}
use Rattle.share_history.specs.Keyed.{at, IsAscending, AreAscending, pairs_at}
use Rattle.share_history.specs.LastSaid.{Playlist, Plain, Ruled, only_if, item_at, list_at}
use Rattle.share_history.specs.Rows.{is_selected, if_selected, in_list, rows}
use Rattle.share_history.proofs.KeyedFacts.{has, same_pairs, at-map, ascending-map, at-pairs_at, ascending-pairs_at}
use Rattle.share_history.proofs.OwnFacts.{item_id}
use Rattle.share_history.proofs.RowFacts.{at-rows, ascending-rows, found_itself}
use Rattle.playlist_store.specs.Words.{ruled, standing}
use Rattle.playlist_store.specs.Reads.{there}

-- ---- the item under a key is that of the row

if_there : (es : List Edit) (k : ℕ) (row : Row) (b : Bool) → item_at es k ≡ Some row → only_if b row ≡ option_and_then (item_at es) (only_if b k)
if_there es k row true is = sym is
if_there es k row false is = refl

ruled_item : (rule : Query) (es : List Edit) (k : ℕ) (found : Option Row) → item_at es k ≡ found
    → option_and_then (if_selected (Some rule)) found ≡ option_and_then (item_at es) (ruled rule k found)
ruled_item rule es k None is = refl
ruled_item rule es k (Some row) is = if_there es k row (is_selected (Some rule) row) is

pub in_list-standing : (list : Option Playlist) (es : List Edit) (c k : ℕ) → in_list list es c k ≡ option_and_then (item_at es) (standing list es c k)
in_list-standing None es c k = refl
in_list-standing (Some (Plain name)) es c k = refl
in_list-standing (Some (Ruled name rule)) es c k = ruled_item rule es k (item_at es k) refl

-- ---- ids of items that are there

-- a row by its item's id
abbrev pub by_id : ℕ × Row → ℕ × ℕ
by_id row = (row.0, row.1.id)

own_id : (es : List Edit) (id : ℕ) (found : Option Row) → item_at es id ≡ found → option_map (λ row. row.id) found ≡ only_if (is_some found) id
own_id es id None is = refl
own_id es id (Some row) is = ap Some (item_id es id row is)

ids_there : (es : List Edit) (found : Option ℕ) → option_map (λ row. row.id) (option_and_then (item_at es) found) ≡ option_and_then (there es) found
ids_there es None = refl
ids_there es (Some id) = own_id es id (item_at es id) refl

-- what a list has under a key, as the id of an item that is there
at-members : (es : List Edit) (c q : ℕ) → (c == base_list) ≡ false
    → at q (map by_id (rows es (Container c) None)) ≡ option_and_then (there es) (standing (list_at es c) es c q)
at-members es c q other =
    at-map by_id (λ row. refl) q (rows es (Container c) None)
    ∙ ap (option_map (λ row. row.id))
    (at-rows es (Container c) None q
    ∙ found_itself (cond (c == base_list) (item_at es q) (in_list (list_at es c) es c q))
    ∙ ap (λ b. cond b (item_at es q) (in_list (list_at es c) es c q)) other
    ∙ in_list-standing (list_at es c) es c q)
    ∙ ids_there es (standing (list_at es c) es c q)

-- ascending pairs that are right under each key are the members
pub members_are : (es : List Edit) (c : ℕ) (ms : List (ℕ × ℕ)) → (c == base_list) ≡ false → IsAscending ms
    → ((q : ℕ) → at q ms ≡ option_and_then (there es) (standing (list_at es c) es c q)) → ms ≡ map by_id (rows es (Container c) None)
members_are es c ms other sorted h =
    same_pairs ms (map by_id (rows es (Container c) None)) sorted (ascending-map by_id (λ row. refl) (rows es (Container c) None) (ascending-rows es (Container c) None))
    (λ q. h q ∙ sym (at-members es c q other))

-- the same of pairs made of the keys that have an item
named_there : (es : List Edit) (b : Bool) (found : Option ℕ) → b ≡ is_some found → cond b (option_and_then (there es) found) None ≡ option_and_then (there es) found
named_there es b None is = either b
  where
    either : (b : Bool) → ◌≡◌ {A = Option ℕ} (cond b None None) None
    either true = refl
    either false = refl
named_there es b (Some id) is = ap (λ x. cond x (there es id) None) is

pub members_made : (es : List Edit) (c : ℕ) (keys : List ℕ) (stands : ℕ → Option ℕ) → (c == base_list) ≡ false → AreAscending keys
    → ((q : ℕ) → has q keys ≡ is_some (stands q)) → ((q : ℕ) → stands q ≡ standing (list_at es c) es c q)
    → pairs_at (λ q. option_and_then (there es) (stands q)) keys ≡ map by_id (rows es (Container c) None)
members_made es c keys stands other sorted some h =
    members_are es c (pairs_at (λ q. option_and_then (there es) (stands q)) keys) other (ascending-pairs_at (λ q. option_and_then (there es) (stands q)) keys sorted)
    (λ q. at-pairs_at q (λ q. option_and_then (there es) (stands q)) keys ∙ named_there es (has q keys) (stands q) (some q) ∙ ap (option_and_then (there es)) (h q))

-- ---- the loop over the keys

pub pairs_next : {A : Type 0} (found now : List (ℕ × A)) (one : Option (ℕ × A)) (value : ℕ → Option A) (keys : List ℕ) (i d : ℕ) → i < length keys
    → now ≡ found ++ option_to_list one → one ≡ option_map (λ x. (get_or keys i d, x)) (value (get_or keys i d))
    → found ++ pairs_at value (drop i keys) ≡ pairs_at value keys → now ++ pairs_at value (drop (i + 1) keys) ≡ pairs_at value keys
pairs_next found now one value keys i d lt more is before =
    ap (λ pairs. pairs ++ pairs_at value (drop (i + 1) keys)) more
    ∙ found_next found one (pairs_at value (drop (i + 1) keys))
    ∙ ap (λ o. found ++ cons_option o (pairs_at value (drop (i + 1) keys))) is
    ∙ ap (λ ks. found ++ pairs_at value ks) (sym (drop-cons keys i d lt ∙ ap (λ n. get_or keys i d ∷ drop n keys) (sym (add-one i))))
    ∙ before

pub pairs_end : {A : Type 0} (found : List (ℕ × A)) (value : ℕ → Option A) (keys : List ℕ) (i : ℕ) → length keys ≤ i
    → found ++ pairs_at value (drop i keys) ≡ pairs_at value keys → found ≡ pairs_at value keys
pairs_end found value keys i over before = sym (ap (λ ks. found ++ pairs_at value ks) (drop_all i keys over) ∙ append-nil found) ∙ before

pub members_found : {X E : Type 0} (pairs : X → List (ℕ × ℕ)) (r : Result X E) (members : Held ℕ) (keys listed : List ℕ) (items : Store) → listed ≡ keys → AreKeys members keys
    → IfOk r (λ v. (bs : List (List Edit)) → StandsFor bs items → pairs v ≡ pairs_at (λ key. option_and_then (there (edits bs)) (newest_value (versions_at key members))) listed)
    → IfOk r (λ v. (bs : List (List Edit)) (c : ℕ) → StandsFor bs items → (c == base_list) ≡ false
    → ((key : ℕ) → newest_value (versions_at key members) ≡ standing (list_at (edits bs) c) (edits bs) c key)
    → pairs v ≡ map by_id (rows (edits bs) (Container c) None))
members_found pairs (Err e) members keys listed items same are made = tt
members_found pairs (Ok v) members keys listed items same are made = λ bs c stands other each.
    made bs stands ∙ ap (pairs_at (λ key. option_and_then (there (edits bs)) (newest_value (versions_at key members)))) same
    ∙ members_made (edits bs) c keys (λ key. newest_value (versions_at key members)) other are.ascending are.each each
