-- The rows and the keys of a listing of a whole history.
use Rattle.std.proofs.Common.{◌≡◌, ◌<◌, ◌^◌, ℕ, ◌==◌, List, [], ◌∷◌, Bool, true, false, cond, ◌&&◌, nat_le, nat_lt, Option, Some, None, filter, unwrap_or}
use Rattle.std.specs.List.{AllByRecursion, cons_option}
use Rattle.std.specs.Option.{option_map, option_and_then, option_or}
use Rattle.std.proofs.lemmas.Bool.{and_parts, ltb-true}
use Rattle.item_model.specs.declared.changes.Edit.{Edit}
use Rattle.item_model.specs.declared.changes.Edit.TheVariants.{PutItem, DropItem, PutList, PutRule, DropList, PutMember, DropMember}
use Rattle.item_model.specs.declared.item.Row.{Row}
use Rattle.item_model.specs.declared.query.Query.{Query}
use Rattle.item_model.specs.declared.request.Target.{Target}
use Rattle.item_model.specs.declared.request.Target.TheVariants.{Items, Container}
use Rattle.item_model.specs.Valid.{is_id, is_list_id, is_valid}
use Rattle.share_history.specs.Keyed.{ascending, pairs_at}
use Rattle.share_history.specs.LastSaid.{Playlist, Plain, Ruled, item_at, last_said, list_at, member_at, only_if, says_item}
use Rattle.share_history.specs.Named.{keys_in, named_keys}
use Rattle.share_history.specs.Numbers.{base_list}
use Rattle.share_history.specs.Rows.{if_selected, in_list, in_target, is_selected, row_at, rows}
use Rattle.share_history.specs.Whole.{AreWhole, IsWholeRow, PutsWhole}
use Rattle.share_history.proofs.KeyedFacts.{all-ascending}
use Rattle.share_history.proofs.WholeFacts.{each_both}

pub each_filtered : {A : Type 0} (P : A → Type 0) (p : A → Bool) (xs : List A) → AllByRecursion P xs → AllByRecursion P (filter p xs)
each_filtered P p [] h = tt
each_filtered P p (x ∷ xs) h = kept (p x) (each_filtered P p xs h.1)
  where
    kept : (b : Bool) → AllByRecursion P (filter p xs) → AllByRecursion P (cond b (x ∷ filter p xs) (filter p xs))
    kept true rest = (h.0, rest)
    kept false rest = rest

-- ---- the item that is there

-- a row as a program has it
pub record IsFound (row : Row) : Type 0 where
  pub whole : IsWholeRow row
  pub small : row.id < 2 ^ 32

abbrev pub Finds : Option Row → Type 0
Finds None = Unit {0}
Finds (Some row) = IsFound row

abbrev Says : Option (Option Row) → Type 0
Says None = Unit {0}
Says (Some found) = Finds found

pub id_small : (n : ℕ) → is_id n ≡ true → n < 2 ^ 32
id_small n h = ltb-true n (2 ^ 32) (and_parts (nat_le 1 n) (nat_lt n (2 ^ 32)) h).1

if_says : (b : Bool) (found : Option Row) → Finds found → Says (only_if b found)
if_says true found h = h
if_says false found h = tt

edit_says : (k : ℕ) (e : Edit) → is_valid e ≡ true → PutsWhole e → Says (says_item k e)
edit_says k (PutItem row) valid whole = if_says (row.id == k) (Some row) (record { whole = whole; small = id_small row.id valid })
edit_says k (DropItem id) valid whole = if_says (id == k) None tt
edit_says k (PutList list name) valid whole = tt
edit_says k (PutRule list name rule) valid whole = tt
edit_says k (DropList list) valid whole = tt
edit_says k (PutMember list member item) valid whole = tt
edit_says k (DropMember list member) valid whole = tt

later_says : (later now : Option (Option Row)) → Says later → Says now → Says (option_or later now)
later_says None now h n = n
later_says (Some found) now h n = h

all_say : (k : ℕ) (es : List Edit) → AreWhole es → Says (last_said (says_item k) es)
all_say k [] whole = tt
all_say k (e ∷ es) whole = later_says (last_said (says_item k) es) (says_item k e) (all_say k es whole.1) (edit_says k e whole.0.0 whole.0.1)

found_says : (said : Option (Option Row)) → Says said → Finds (unwrap_or said None)
found_says None h = tt
found_says (Some found) h = h

item_finds : (es : List Edit) (k : ℕ) → AreWhole es → Finds (item_at es k)
item_finds es k whole = found_says (last_said (says_item k) es) (all_say k es whole)

selected_finds : (q : Option Query) (found : Option Row) → Finds found → Finds (option_and_then (if_selected q) found)
selected_finds q None h = tt
selected_finds q (Some row) h = kept (is_selected q row)
  where
    kept : (b : Bool) → Finds (only_if b row)
    kept true = h
    kept false = tt

member_finds : (es : List Edit) (item : Option ℕ) → AreWhole es → Finds (option_and_then (item_at es) item)
member_finds es None whole = tt
member_finds es (Some item) whole = item_finds es item whole

list_finds : (es : List Edit) (c k : ℕ) (found : Option Playlist) → AreWhole es → Finds (in_list found es c k)
list_finds es c k None whole = tt
list_finds es c k (Some (Plain name)) whole = member_finds es (member_at es c k) whole
list_finds es c k (Some (Ruled name rule)) whole = selected_finds (Some rule) (item_at es k) (item_finds es k whole)

target_finds : (es : List Edit) (target : Target) (k : ℕ) → AreWhole es → Finds (in_target es target k)
target_finds es Items k whole = item_finds es k whole
target_finds es (Container c) k whole = by_base (c == base_list)
  where
    by_base : (b : Bool) → Finds (cond b (item_at es k) (in_list (list_at es c) es c k))
    by_base true = item_finds es k whole
    by_base false = list_finds es c k (list_at es c) whole

row_finds : (es : List Edit) (target : Target) (q : Option Query) (k : ℕ) → AreWhole es → Finds (row_at es target q k)
row_finds es target q k whole = selected_finds q (in_target es target k) (target_finds es target k whole)

-- ---- keys

abbrev pub AreSmall : List ℕ → Type 0
AreSmall keys = AllByRecursion (λ key. key < 2 ^ 32) keys

member_small : (list member : ℕ) → (is_list_id list && is_id member) ≡ true → member < 2 ^ 32
member_small list member h = id_small member (and_parts (is_list_id list) (is_id member) h).1

small_in : (e : Edit) → is_valid e ≡ true → AreSmall (keys_in e)
small_in (PutItem row) h = (id_small row.id h, tt)
small_in (DropItem id) h = (id_small id h, tt)
small_in (PutList list name) h = tt
small_in (PutRule list name rule) h = tt
small_in (DropList list) h = tt
small_in (PutMember list member item) h =
    (id_small member (and_parts (is_id member) (is_id item) (and_parts (is_list_id list) (is_id member && is_id item) h).1).0, tt)
small_in (DropMember list member) h = (member_small list member h, tt)

small_named : (es : List Edit) → AreWhole es → AreSmall (named_keys es)
small_named [] whole = tt
small_named (e ∷ es) whole = each_both (λ key. key < 2 ^ 32) (keys_in e) (named_keys es) (small_in e whole.0.0) (small_named es whole.1)

pub small_keys : (es : List Edit) → AreWhole es → AreSmall (ascending (named_keys es))
small_keys es whole = all-ascending (λ key. key < 2 ^ 32) (named_keys es) (small_named es whole)

-- ---- rows

pub record IsRow (pair : ℕ × Row) : Type 0 where
  pub key : pair.0 < 2 ^ 32
  pub found : IsFound pair.1

pairs_are : (f : ℕ → Option Row) (ks : List ℕ) → ((k : ℕ) → Finds (f k)) → AreSmall ks → AllByRecursion IsRow (pairs_at f ks)
pairs_are f [] finds small = tt
pairs_are f (k ∷ ks) finds small = with_one (f k) (finds k) (pairs_are f ks finds small.1)
  where
    with_one : (v : Option Row) → Finds v → AllByRecursion IsRow (pairs_at f ks) → AllByRecursion IsRow (cons_option (option_map (λ x. (k, x)) v) (pairs_at f ks))
    with_one None h others = others
    with_one (Some row) h others = (record { key = small.0; found = h }, others)

pub rows_are : (es : List Edit) (target : Target) (q : Option Query) → AreWhole es → AllByRecursion IsRow (rows es target q)
rows_are es target q whole =
    pairs_are (row_at es target q) (ascending (named_keys es)) (λ k. row_finds es target q k whole) (small_keys es whole)
