-- What changes come to, id by id.
use Rattle.std.proofs.Common.{◌≡◌, ℕ, Bool, true, false, cond, List, [], ◌∷◌, Option, Some, None, option_copied, refl, sym, ap, ◌∙◌, subst, nat_cmp, is_eq}
use Rattle.std.specs.List.Sorted.{IsStrictlySortedBy}
use Rattle.item_model.specs.declared.item.Row.{Row}
use Rattle.share_history.specs.Keyed.{at, put_in, IsAscending}
use Rattle.share_history.proofs.KeyedFacts.{same_key, at-put, ascending-put, at-out, ascending-out}
use Rattle.prop_index.specs.declared.changes.Change.{Change}
use Rattle.prop_index.specs.declared.changes.Turn.{Turn}
use Rattle.prop_index.specs.Library.{after, Fits, after_all, FitInTurn}
use Rattle.prop_index.specs.Turns.{id_of, first_of, TurnsAs, TurnTo, Midway}

some_same : {A : Type 0} (x y : A) → Some x ≡ Some y → x ≡ y
some_same x y p = (cc)

not_some : {A : Type 0} {C : Type 0} (x : A) → Some x ≡ None → C
not_some x p = absurd (cc)

-- ---- one change

-- without an id there is nothing to change
pub unchanged : (now : List (ℕ × Row)) (old new : Option Row) → id_of old new ≡ None → after now old new ≡ now
unchanged now None None h = refl
unchanged now (Some old) None h = not_some old.id h
unchanged now None (Some new) h = not_some new.id h
unchanged now (Some old) (Some new) h = not_some new.id h

at_one : (now : List (ℕ × Row)) (q k id : ℕ) (row : Row) → k ≡ id → at q (put_in now (k, row)) ≡ cond (is_eq (nat_cmp q id)) (Some row) (at q now)
at_one now q k id row e = at-put q (k, row) now ∙ ap (λ n. cond (is_eq (nat_cmp q n)) (Some row) (at q now)) e

-- the changed id has the new row, and the others keep theirs
at_after : (now : List (ℕ × Row)) (old new : Option Row) (id q : ℕ) → IsAscending now → id_of old new ≡ Some id → at q (after now old new) ≡ cond (is_eq (nat_cmp q id)) new (at q now)
at_after now None None id q s h = not_some id (sym h)
at_after now (Some old) None id q s h = at-out q old.id now s ∙ ap (λ n. cond (is_eq (nat_cmp q n)) None (at q now)) (some_same old.id id h)
at_after now None (Some new) id q s h = at_one now q new.id id new (some_same new.id id h)
at_after now (Some old) (Some new) id q s h = at_one now q new.id id new (some_same new.id id h)

ascending_after : (now : List (ℕ × Row)) (old new : Option Row) → IsAscending now → IsAscending (after now old new)
ascending_after now None None s = s
ascending_after now (Some old) None s = ascending-out old.id now s
ascending_after now None (Some new) s = ascending-put (new.id, new) now s
ascending_after now (Some old) (Some new) s = ascending-put (new.id, new) now s

-- the old row of a change that fits is the one that stands under its id
at_old : (now : List (ℕ × Row)) (old new : Option Row) (id : ℕ) → Fits now old new → id_of old new ≡ Some id → at id now ≡ old
at_old now None None id fits h = not_some id (sym h)
at_old now (Some old) None id fits h = ap (λ n. at n now) (sym (some_same old.id id h)) ∙ fits
at_old now None (Some new) id fits h = ap (λ n. at n now) (sym (some_same new.id id h)) ∙ fits
at_old now (Some old) (Some new) id fits h = ap (λ n. at n now) (sym (some_same new.id id h)) ∙ fits.0

-- the row before all changes is the one that they tell
first_is : (turn : Option Turn) (before now old : Option Row) → TurnsAs turn before now → now ≡ old → before ≡ first_of turn old
first_is None before now old turned e = sym turned ∙ e
first_is (Some turn) before now old turned e = turned.0

-- one change more
pub turn_more : (rows now : List (ℕ × Row)) (turns later : List (ℕ × Turn)) (old new : Option Row) (id : ℕ) (turn : Turn)
    → TurnTo rows now turns → IsAscending now → Fits now old new → id_of old new ≡ Some id
    → option_copied turn.old ≡ first_of (at id turns) old → option_copied turn.new ≡ new → later ≡ put_in turns (id, turn)
    → TurnTo rows (after now old new) later
turn_more rows now turns later old new id turn turned s fits is first last put = record {
  ascending = subst IsAscending (sym put) (ascending-put (id, turn) turns turned.ascending);
  each = λ q.
      subst (λ ts. TurnsAs (at q ts) (at q rows) (at q (after now old new))) (sym put)
      (subst (λ o. TurnsAs o (at q rows) (at q (after now old new))) (sym (at-put q (id, turn) turns))
      (subst (TurnsAs (cond (is_eq (nat_cmp q id)) (Some turn) (at q turns)) (at q rows)) (sym (at_after now old new id q s is))
      (by_key q (is_eq (nat_cmp q id)) (same_key q id))));
}
  where
    by_key : (q : ℕ) (b : Bool) → (b ≡ true → q ≡ id) → TurnsAs (cond b (Some turn) (at q turns)) (at q rows) (cond b new (at q now))
    by_key q true same =
        (ap (λ n. at n rows) (same refl) ∙ first_is (at id turns) (at id rows) (at id now) old (turned.each id) (at_old now old new id fits is) ∙ sym first, sym last)
    by_key q false same = turned.each q

-- ---- changes in turn

-- no change leads nowhere
pub turn_none : (rows : List (ℕ × Row)) (turns : List (ℕ × Turn)) → turns ≡ [] → TurnTo rows rows turns
unfolding IsStrictlySortedBy
turn_none rows turns none = subst (TurnTo rows rows) (sym none) (record { ascending = tt; each = λ id. refl })

pub midway_more : (rows : List (ℕ × Row)) (turns later : List (ℕ × Turn)) (left behind : List Change) (last : List (ℕ × Row)) (change : Change) (old new : Option Row)
    → left ≡ change ∷ behind → old ≡ change.old → new ≡ change.new
    → ((rows now : List (ℕ × Row)) → TurnTo rows now turns → IsAscending now → Fits now old new → TurnTo rows (after now old new) later)
    → Midway rows turns left last → Midway rows later behind last
midway_more rows turns later left behind last change old new is first then added midway =
    let fits = subst (FitInTurn midway.now) is midway.fits in
    record {
      now = after midway.now change.old change.new;
      turned =
          subst (λ o. TurnTo rows (after midway.now o change.new) later) first
          (subst (λ n. TurnTo rows (after midway.now old n) later) then
          (added rows midway.now midway.turned midway.ascending
          (subst (λ o. Fits midway.now o new) (sym first) (subst (λ n. Fits midway.now change.old n) (sym then) fits.0))));
      ascending = ascending_after midway.now change.old change.new midway.ascending;
      fits = fits.1;
      leads = ap (after_all midway.now) (sym is) ∙ midway.leads;
    }
