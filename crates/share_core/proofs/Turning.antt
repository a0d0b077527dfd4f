-- Changes of items, applied one after the other, lead from the library of some edits to that of more.
use Rattle.std.proofs.Common.{◌≡◌, ℕ, Bool, true, false, cond, ◌==◌, ◌||◌, List, [], ◌∷◌, ◌++◌, map, filter, Option, Some, None, IfSome, refl, sym, ap, ◌∙◌, subst, nat_cmp, is_eq, Less, true≢false}
use Rattle.std.specs.List.{list_any, AllByRecursion}
use Rattle.std.specs.List.Sorted.{IsStrictlySortedBy}
use Rattle.item_model.specs.declared.item.Row.{Row}
use Rattle.item_model.specs.declared.changes.Edit.{Edit}
use Rattle.item_model.specs.declared.changes.Edit.TheVariants.{PutItem, DropItem, PutList, PutRule, DropList, PutMember, DropMember}
use Rattle.item_store.specs.Stands.{items_in, named_items}
use Rattle.share_history.specs.Keyed.{at, put_in, taken_out, ascending, IsAscending, AreAscending}
use Rattle.share_history.specs.LastSaid.{item_at}
use Rattle.share_history.specs.Named.{names_item}
use Rattle.share_history.specs.Rows.{library}
use Rattle.share_history.proofs.EditFacts.{item_stays}
use Rattle.share_history.proofs.KeyedFacts.{has, same_key, key_itself, is_eq-cmp, at-put, ascending-put, at-out, ascending-out, sorted-ascending, has-ascending}
use Rattle.share_history.proofs.OwnFacts.{item_id}
use Rattle.share_history.proofs.RowFacts.{library_is, at-library, ascending-library}
use Rattle.prop_index.specs.declared.changes.Change.{Change}
use Rattle.prop_index.specs.Library.{after, Fits, after_all, FitInTurn}
use Rattle.share_core.specs.Short.{HasShortTexts}
use Rattle.share_core.specs.Turned.{change_to, IsShortChange}

-- the items of ids as some edits leave them, and what others make of them
abbrev pub rows_of : List Edit → List ℕ → List (ℕ × Option Row)
rows_of es ids = map (λ id. (id, item_at es id)) ids

abbrev pub changes_of : (es now : List Edit) → List ℕ → List Change
changes_of es now ids = map (change_to now) (rows_of es ids)

-- ---- one change

fits : (es now : List Edit) (rows : List (ℕ × Row)) (id : ℕ) (old new : Option Row) → item_at es id ≡ old → item_at now id ≡ new → at id rows ≡ old → Fits rows old new
fits es now rows id None None was is stands = tt
fits es now rows id (Some old) None was is stands = ap (λ n. at n rows) (item_id es id old was) ∙ stands
fits es now rows id None (Some new) was is stands = ap (λ n. at n rows) (item_id now id new is) ∙ stands
fits es now rows id (Some old) (Some new) was is stands =
    (ap (λ n. at n rows) (item_id now id new is) ∙ stands, item_id es id old was ∙ sym (item_id now id new is))

none_there : (b : Bool) (found : Option Row) → (b ≡ true → found ≡ None) → found ≡ cond b None found
none_there true found h = h refl
none_there false found h = refl

at_put : (now : List Edit) (rows : List (ℕ × Row)) (id q : ℕ) (new : Row) → item_at now id ≡ Some new → at q (put_in rows (new.id, new)) ≡ cond (is_eq (nat_cmp q id)) (Some new) (at q rows)
at_put now rows id q new is = at-put q (new.id, new) rows ∙ ap (λ n. cond (is_eq (nat_cmp q n)) (Some new) (at q rows)) (item_id now id new is)

-- the item has the new row, and the others keep theirs
at_after : (es now : List Edit) (rows : List (ℕ × Row)) (id q : ℕ) (old new : Option Row) → IsAscending rows → item_at es id ≡ old → item_at now id ≡ new → at id rows ≡ old
    → at q (after rows old new) ≡ cond (is_eq (nat_cmp q id)) new (at q rows)
at_after es now rows id q None None s was is stands = none_there (is_eq (nat_cmp q id)) (at q rows) (λ b. ap (λ n. at n rows) (same_key q id b) ∙ stands)
at_after es now rows id q (Some old) None s was is stands =
    at-out q old.id rows s ∙ ap (λ n. cond (is_eq (nat_cmp q n)) None (at q rows)) (item_id es id old was)
at_after es now rows id q None (Some new) s was is stands = at_put now rows id q new is
at_after es now rows id q (Some old) (Some new) s was is stands = at_put now rows id q new is

ascending_after : (rows : List (ℕ × Row)) (old new : Option Row) → IsAscending rows → IsAscending (after rows old new)
ascending_after rows None None s = s
ascending_after rows (Some old) None s = ascending-out old.id rows s
ascending_after rows None (Some new) s = ascending-put (new.id, new) rows s
ascending_after rows (Some old) (Some new) s = ascending-put (new.id, new) rows s

-- ---- changes in turn

-- an id is not among those that are above it
above_all : (id q : ℕ) (ids : List ℕ) → AllByRecursion (λ k. nat_cmp id k ≡ Less) ids → has q ids ≡ true → is_eq (nat_cmp q id) ≡ false
above_all id q [] all here = absurd (true≢false (sym here))
above_all id q (k ∷ ids) all here = by_case (is_eq (nat_cmp q k)) refl (above_all id q ids all.1)
  where
    apart : is_eq (nat_cmp q k) ≡ true → (b : Bool) → is_eq (nat_cmp q id) ≡ b → b ≡ false
    apart same true e =
        absurd (true≢false (sym (key_itself id) ∙ ap is_eq (ap (nat_cmp id) (sym (same_key q id e) ∙ same_key q k same) ∙ all.0)))
    apart same false e = refl

    by_case : (b : Bool) → is_eq (nat_cmp q k) ≡ b → (has q ids ≡ true → is_eq (nat_cmp q id) ≡ false) → is_eq (nat_cmp q id) ≡ false
    by_case true e rest = apart e (is_eq (nat_cmp q id)) refl
    by_case false e rest = rest (sym (ap (λ b. b || has q ids) e) ∙ here)

record Led (es now : List Edit) (ids : List ℕ) (rows : List (ℕ × Row)) : Type 0 where
  fit : FitInTurn rows (changes_of es now ids)
  ascends : IsAscending (after_all rows (changes_of es now ids))
  each : (q : ℕ) → at q (after_all rows (changes_of es now ids)) ≡ cond (has q ids) (item_at now q) (at q rows)

either : (b c : Bool) (x y z : Option Row) → (b ≡ true → y ≡ x) → cond c x (cond b y z) ≡ cond (b || c) x z
either true true x y z same = refl
either true false x y z same = same refl
either false c x y z same = refl

in_front : (q id : ℕ) (ids : List ℕ) → has q ids ≡ true → (is_eq (nat_cmp q id) || has q ids) ≡ true
in_front q id ids here = ap (λ b. is_eq (nat_cmp q id) || b) here ∙ or_true (is_eq (nat_cmp q id))
  where
    or_true : (b : Bool) → (b || true) ≡ true
    or_true true = refl
    or_true false = refl

led : (es now : List Edit) (ids : List ℕ) (rows : List (ℕ × Row)) → IsAscending rows → AreAscending ids → ((q : ℕ) → has q ids ≡ true → at q rows ≡ item_at es q)
    → Led es now ids rows
unfolding IsStrictlySortedBy
led es now [] rows s sorted same = record { fit = tt; ascends = s; each = λ q. refl }
led es now (id ∷ ids) rows s sorted same =
    let here : at id rows ≡ item_at es id = same id (ap (λ b. b || has id ids) (key_itself id)) in
    let next : List (ℕ × Row) = after rows (item_at es id) (item_at now id) in
    let moved : (q : ℕ) → at q next ≡ cond (is_eq (nat_cmp q id)) (item_at now id) (at q rows) =
    λ q. at_after es now rows id q (item_at es id) (item_at now id) s refl refl here in
    let rest : Led es now ids next = led es now ids next (ascending_after rows (item_at es id) (item_at now id) s) sorted.1
    (λ q there. moved q ∙ ap (λ b. cond b (item_at now id) (at q rows)) (above_all id q ids sorted.0 there) ∙ same q (in_front q id ids there)) in record {
      fit = (fits es now rows id (item_at es id) (item_at now id) refl refl here, rest.fit);
      ascends = rest.ascends;
      each = λ q.
          rest.each q ∙ ap (λ found. cond (has q ids) (item_at now q) found) (moved q)
          ∙ either (is_eq (nat_cmp q id)) (has q ids) (item_at now q) (item_at now id) (at q rows) (λ b. ap (item_at now) (sym (same_key q id b)));
    }

-- ---- the items that a batch names

pub named : (q : ℕ) (batch : List Edit) → has q (named_items batch) ≡ list_any (names_item q) batch
named q [] = refl
named q (PutItem row ∷ batch) = λ i. is_eq-cmp q row.id i || named q batch i
named q (DropItem id ∷ batch) = λ i. is_eq-cmp q id i || named q batch i
named q (PutList list name ∷ batch) = named q batch
named q (PutRule list name rule ∷ batch) = named q batch
named q (DropList list ∷ batch) = named q batch
named q (PutMember list member item ∷ batch) = named q batch
named q (DropMember list member ∷ batch) = named q batch

-- the changes of all items that a batch names
pub record Leads (es now : List Edit) (batch : List Edit) : Type 0 where
  pub fit : FitInTurn (library es) (changes_of es now (ascending (named_items batch)))
  pub reached : after_all (library es) (changes_of es now (ascending (named_items batch))) ≡ library now

named_or_kept : (b : Bool) (x y : Option Row) → (b ≡ false → y ≡ x) → cond b x y ≡ x
named_or_kept true x y h = refl
named_or_kept false x y h = h refl

pub leads : (es now batch : List Edit) → now ≡ es ++ batch → Leads es now batch
leads es now batch is =
    let ids : List ℕ = ascending (named_items batch) in
    let on : Led es now ids (library es) = led es now ids (library es) (ascending-library es) (sorted-ascending (named_items batch)) (λ q here. at-library es q) in record {
      fit = on.fit;
      reached = library_is now (after_all (library es) (changes_of es now ids)) on.ascends
          (λ q. on.each q ∙ named_or_kept (has q ids) (item_at now q) (at q (library es))
          (λ b. at-library es q ∙ sym (ap (λ l. item_at l q) is ∙ item_stays es batch q (sym (has-ascending q (named_items batch) ∙ named q batch) ∙ b))));
    }

-- ---- short texts

short_among : (es now : List Edit) (ids : List ℕ) (q : ℕ) → AllByRecursion IsShortChange (changes_of es now ids) → has q ids ≡ true → IfSome (item_at now q) HasShortTexts
short_among es now [] q all here = absurd (true≢false (sym here))
short_among es now (id ∷ ids) q all here = by_case (is_eq (nat_cmp q id)) refl (short_among es now ids q all.1)
  where
    by_case : (b : Bool) → is_eq (nat_cmp q id) ≡ b → (has q ids ≡ true → IfSome (item_at now q) HasShortTexts) → IfSome (item_at now q) HasShortTexts
    by_case true e rest = subst (λ n. IfSome (item_at now n) HasShortTexts) (sym (same_key q id e)) all.0
    by_case false e rest = rest (sym (ap (λ b. b || has q ids) e) ∙ here)

-- items have short texts if those of the changed ones are short
pub short_after : (es now batch : List Edit) → now ≡ es ++ batch → AllByRecursion IsShortChange (changes_of es now (ascending (named_items batch)))
    → ((id : ℕ) (row : Row) → item_at es id ≡ Some row → HasShortTexts row) → (id : ℕ) (row : Row) → item_at now id ≡ Some row → HasShortTexts row
short_after es now batch is all before id row found = by_case (has id ids) refl
  where
    ids : List ℕ
    ids = ascending (named_items batch)

    by_case : (b : Bool) → has id ids ≡ b → HasShortTexts row
    by_case true e = subst (λ o. IfSome o HasShortTexts) found (short_among es now ids id all e)
    by_case false e = before id row (sym (ap (λ l. item_at l id) is ∙ item_stays es batch id (sym (has-ascending id (named_items batch) ∙ named id batch) ∙ e)) ∙ found)
