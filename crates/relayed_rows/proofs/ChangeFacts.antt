-- The changes of a listing: what they have under each id, and that a mirror of the listing's tags has the same.
use Rattle.std.proofs.Common.{◌≡◌, ◌+◌, ℕ, Bool, true, false, cond, ◌||◌, List, [], ◌∷◌, fold, map, Option, Some, None, is_none, is_some, unwrap_or, nat_cmp, is_eq, refl, sym, ap, subst, ◌∙◌}
use Rattle.std.specs.List.{AllByRecursion, cons_option, position_from}
use Rattle.std.specs.Map.{keys_of}
use Rattle.std.specs.Option.{option_and_then, option_map}
use Rattle.dmap_tags.specs.Tree.{Tree}
use Rattle.item_model.specs.declared.item.Row.{Row}
use Rattle.item_model.specs.declared.request.Target.TheVariants.{Items}
use Rattle.share_history.specs.Keyed.{at, put_in, taken_out, IsAscending}
use Rattle.share_history.proofs.KeyedFacts.{has, same_key, sorted-ascending, at-put, ascending-put, at-out, ascending-out, has-keys_of}
use Rattle.mirror_core.specs.Bodies.{IsRow}
use Rattle.mirror_core.specs.Reading.{Told, row_of as keyed}
use Rattle.relayed_rows.specs.ReadRows.{row_of}
use Rattle.relayed_rows.specs.Libraries.{IsLibrary, IsOwn, Library}
use Rattle.relayed_rows.specs.Relays.{is_unread}
use Rattle.relayed_rows.specs.Changes.{Change, with_gone, with_row, rows_told, ids_cleared, changes_of, AreSound}
use Rattle.relayed_rows.proofs.RowFacts.{row_own, listed_own}

-- ---- under each id

either : {X : Type 0} (a b : Bool) (x y : X) → cond b x (cond a x y) ≡ cond (a || b) x y
either true true x y = refl
either true false x y = refl
either false b x y = refl

pub at-gones : (q : ℕ) (cs : List Change) (ids : List ℕ) → at q (fold with_gone cs ids) ≡ cond (has q ids) (Some None) (at q cs)
at-gones q cs [] = refl
at-gones q cs (id ∷ ids) =
    at-gones q (with_gone cs id) ids ∙ ap (cond (has q ids) (Some None)) (at-put q (id, None) cs)
    ∙ either (is_eq (nat_cmp q id)) (has q ids) (Some None) (at q cs)

ascending-gones : (cs : List Change) (ids : List ℕ) → IsAscending cs → IsAscending (fold with_gone cs ids)
ascending-gones cs [] s = s
ascending-gones cs (id ∷ ids) s = ascending-gones (with_gone cs id) ids (ascending-put (id, None) cs s)

ascending-rows : (cs : List Change) (rows : Library) → IsAscending cs → IsAscending (fold with_row cs rows)
ascending-rows cs [] s = s
ascending-rows cs (e ∷ rows) s = ascending-rows (with_row cs e) rows (ascending-put (e.0, Some e.1) cs s)

-- ---- own rows

abbrev Own : List Change → Type 0
Own cs = (q : ℕ) (row : Row) → at q cs ≡ Some (Some row) → IsOwn (q, row)

own_put : (q : ℕ) (e : ℕ × Row) (row : Row) (b : Bool) (old : Option (Option Row)) → is_eq (nat_cmp q e.0) ≡ b → IsOwn e → (old ≡ Some (Some row) → IsOwn (q, row))
    → cond b (Some (Some e.1)) old ≡ Some (Some row) → IsOwn (q, row)
own_put q e row true old same own rest h =
    let one : e.1 ≡ row = cc in
    subst (λ (r : Row). IsOwn (q, r)) one (subst (λ (n : ℕ). IsOwn (n, e.1)) (sym (same_key q e.0 same)) own)
own_put q e row false old same own rest h = rest h

own_rows : (cs : List Change) (rows : Library) → Own cs → AllByRecursion IsOwn rows → Own (fold with_row cs rows)
own_rows cs [] own all = own
own_rows cs (e ∷ rows) own all =
    own_rows (with_row cs e) rows
    (λ q row h. own_put q e row (is_eq (nat_cmp q e.0)) (at q cs) refl all.0 (own q row) (sym (at-put q (e.0, Some e.1) cs) ∙ h)) all.1

own_gones : (ids : List ℕ) → Own (fold with_gone [] ids)
own_gones ids q row h = nothing_put (has q ids) (sym (at-gones q [] ids) ∙ h)
  where
    nothing_put : (b : Bool) → cond b (Some None) None ≡ Some (Some row) → IsOwn (q, row)
    nothing_put true h = absurd (cc)
    nothing_put false h = absurd (cc)

own_told : (tags : List Tree) → AllByRecursion IsOwn (rows_told tags)
own_told [] = tt
own_told (tag ∷ tags) =
    elim (row_of tag) as (λ o. row_of tag ≡ o → AllByRecursion IsOwn (cons_option (option_map (λ row. (row.id, row)) o) (rows_told tags))) [
      | None ↦ λ _. own_told tags
      | Some row ↦ λ is. (row_own tag row is, own_told tags)
    ] refl

pub changes_sound : (held : Library) (told : Told) (cs : List Change) → IsLibrary held → cs ≡ changes_of held told → AreSound held cs
changes_sound held told cs is h =
    let left : List Change = fold with_gone [] (ids_cleared held told) in
    record {
      library = is;
      ascends = subst IsAscending (sym h) (ascending-rows left (rows_told told.rows) (ascending-gones [] (ids_cleared held told) (sorted-ascending [])));
      own = subst Own (sym h) (own_rows left (rows_told told.rows) (own_gones (ids_cleared held told)) (own_told told.rows));
    }

-- ---- the same in a mirror of tags

-- under each id, the tags state the held row after some changes
abbrev pub Follows : List (ℕ × Tree) → List Change → Library → Type 0
Follows tags cs held = (q : ℕ) → option_and_then row_of (at q tags) ≡ unwrap_or (at q cs) (at q held)

follows_gone : (tags : List (ℕ × Tree)) (cs : List Change) (held : Library) (id : ℕ) → IsAscending tags → Follows tags cs held → Follows (taken_out tags id) (with_gone cs id) held
follows_gone tags cs held id s h q =
    ap (option_and_then row_of) (at-out q id tags s) ∙ gone_too (is_eq (nat_cmp q id)) ∙ sym (ap (λ c. unwrap_or c (at q held)) (at-put q (id, None) cs))
  where
    gone_too : (b : Bool) → option_and_then row_of (cond b None (at q tags)) ≡ unwrap_or (cond b (Some None) (at q cs)) (at q held)
    gone_too true = refl
    gone_too false = h q

pub follows_gones : (tags : List (ℕ × Tree)) (cs : List Change) (held : Library) (ids : List ℕ) → IsAscending tags → Follows tags cs held
    → Follows (fold taken_out tags ids) (fold with_gone cs ids) held
follows_gones tags cs held [] s h = h
follows_gones tags cs held (id ∷ ids) s h =
    follows_gones (taken_out tags id) (with_gone cs id) held ids (ascending-out id tags s) (follows_gone tags cs held id s h)

follows_row : (tags : List (ℕ × Tree)) (cs : List Change) (held : Library) (key : ℕ) (tag : Tree) (row : Row) → row_of tag ≡ Some row → row.id ≡ key → Follows tags cs held
    → Follows (put_in tags (key, tag)) (with_row cs (row.id, row)) held
follows_row tags cs held key tag row is own h q =
    ap (option_and_then row_of) (at-put q (key, tag) tags) ∙ put_too (is_eq (nat_cmp q key))
    ∙ ap (λ (n : ℕ). unwrap_or (cond (is_eq (nat_cmp q n)) (Some (Some row)) (at q cs)) (at q held)) (sym own)
    ∙ sym (ap (λ c. unwrap_or c (at q held)) (at-put q (row.id, Some row) cs))
  where
    put_too : (b : Bool) → option_and_then row_of (cond b (Some tag) (at q tags)) ≡ unwrap_or (cond b (Some (Some row)) (at q cs)) (at q held)
    put_too true = is
    put_too false = h q

-- if each listed tag states a row
pub follows_rows : (tags : List (ℕ × Tree)) (cs : List Change) (held : Library) (n : ℕ) (listed : List Tree) → position_from is_unread n listed ≡ None
    → AllByRecursion (IsRow Items) (map (keyed Items) listed) → Follows tags cs held
    → Follows (fold put_in tags (map (keyed Items) listed)) (fold with_row cs (rows_told listed)) held
follows_rows tags cs held n [] none all h = h
follows_rows tags cs held n (tag ∷ listed) none all h =
    elim (row_of tag) as (λ o. row_of tag ≡ o → cond (is_none o) (Some n) (position_from is_unread (n + 1) listed) ≡ None
    → Follows (fold put_in (put_in tags (keyed Items tag)) (map (keyed Items) listed)) (fold with_row cs (cons_option (option_map (λ row. (row.id, row)) o) (rows_told listed))) held) [
      | None ↦ λ is unread. absurd (cc)
      | Some row ↦ λ is read.
          follows_rows (put_in tags (keyed Items tag)) (with_row cs (row.id, row)) held (n + 1) listed read all.1
          (follows_row tags cs held (keyed Items tag).0 tag row is (listed_own (keyed Items tag) row all.0 is) h)
    ] refl none

-- a full listing starts without tags, and drops every held row
pub follows_nothing : (held : Library) → Follows [] (fold with_gone [] (keys_of held)) held
follows_nothing held q =
    all_gone (at q held) ∙ ap (λ b. unwrap_or (cond b (Some None) None) (at q held)) (sym (has-keys_of q held))
    ∙ ap (λ c. unwrap_or c (at q held)) (sym (at-gones q [] (keys_of held)))
  where
    all_gone : (o : Option Row) → None ≡ unwrap_or (cond (is_some o) (Some None) None) o
    all_gone None = refl
    all_gone (Some row) = refl
