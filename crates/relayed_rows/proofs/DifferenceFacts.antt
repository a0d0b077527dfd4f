-- What the difference of two libraries has under each id, that it leads from the one to the other, and that its edits are valid.
use Rattle.std.proofs.Common.{◌≡◌, ℕ, Bool, true, false, cond, not, ◌&&◌, List, [], ◌∷◌, ◌++◌, map, fold, Option, Some, None, is_some, is_none, refl, sym, ap, subst, ◌∙◌, append_assoc, append-nil}
use Rattle.std.specs.List.{AllByRecursion}
use Rattle.std.specs.Map.{keys_of}
use Rattle.std.specs.Option.{option_or, option_map_or, option_and_then}
use Rattle.std.proofs.lemmas.List.Elements.{All-from_recursion, All-append, All-map}
use Rattle.dmap_tags.proofs.SameFacts.{tag_itself}
use Rattle.item_model.specs.declared.changes.Edit.{Edit}
use Rattle.item_model.specs.declared.changes.Edit.TheVariants.{PutItem, DropItem}
use Rattle.item_model.specs.declared.item.Row.{Row}
use Rattle.item_model.specs.declared.request.Meta.TheVariants as meta
use Rattle.item_model.specs.Projection.{projection}
use Rattle.item_model.specs.Valid.{IsValid, is_id}
use Rattle.share_history.specs.Keyed.{at, put_in, taken_out, IsAscending}
use Rattle.share_history.specs.LastSaid.{only_if}
use Rattle.share_history.specs.Rows.{library}
use Rattle.share_history.proofs.KeyedFacts.{has, same_pairs, same_keys_same, sorted-ascending, sorted-filter, all-kept, at-puts, ascending-puts, at-outs, ascending-outs, ascending-filter, has-filter, has-keys_of}
use Rattle.share_history.proofs.DifferenceFacts.{at-passing}
use Rattle.share_history.proofs.RowFacts.{with_edit, library_more}
use Rattle.relayed_rows.specs.Libraries.{IsLibrary, IsOwn, Library}
use Rattle.relayed_rows.specs.Differences.{is_same_row, has_row, gone_ids, new_rows, drops_and_puts, difference}
use Rattle.relayed_rows.specs.Laws.{DifferencesApply, DifferencesAreValid, DifferencesTell}
use Rattle.relayed_rows.proofs.RowFacts.{rows_are_told_apart}
use Rattle.relayed_rows.proofs.LibraryFacts.{own_at, own_id, all_filtered}

-- ---- one id

-- what is new under an id that had this row
abbrev pub new_at : Option Row → Row → Option Row
new_at was row = only_if (not (option_map_or (λ old. is_same_row old row) was false)) row

pub at-new : (q : ℕ) (before now : Library) → IsAscending now → at q (new_rows before now) ≡ option_and_then (new_at (at q before)) (at q now)
at-new q before now s = at-passing (λ e. not (has_row before e)) q now s

pub has-gone : (q : ℕ) (before now : Library) → has q (gone_ids before now) ≡ (is_none (at q now) && is_some (at q before))
has-gone q before now = has-filter q (λ id. is_none (at id now)) (keys_of before) ∙ ap (λ b. is_none (at q now) && b) (has-keys_of q before)

-- a row that is there is its own
abbrev pub AreOwnAt : ℕ → Option Row → Type 0
AreOwnAt q o = (row : Row) → o ≡ Some row → IsOwn (q, row)

pub same_row : (q : ℕ) (old row : Row) → IsOwn (q, old) → IsOwn (q, row) → is_same_row old row ≡ true → old ≡ row
same_row q old row was is h = (rows_are_told_apart old row was.item (own_id q old was) is.item (own_id q row is)).0 h

-- a new row is put, and one that is the same stays
pub put_or_kept : (q : ℕ) (was : Option Row) (row : Row) → AreOwnAt q was → IsOwn (q, row) → option_or (new_at was row) was ≡ Some row
put_or_kept q None row own is = refl
put_or_kept q (Some old) row own is = one_or_new (is_same_row old row) refl
  where
    one_or_new : (b : Bool) → is_same_row old row ≡ b → option_or (only_if (not b) row) (Some old) ≡ Some row
    one_or_new true h = ap Some (same_row q old row (own old refl) is h)
    one_or_new false h = refl

at_one_id : (q : ℕ) (was is : Option Row) → AreOwnAt q was → AreOwnAt q is → option_or (option_and_then (new_at was) is) (cond (is_none is && is_some was) None was) ≡ is
at_one_id q None None own new = refl
at_one_id q (Some old) None own new = refl
at_one_id q was (Some row) own new = put_or_kept q was row own (new row refl)

pub ascending-new : (before now : Library) → IsAscending now → IsAscending (new_rows before now)
ascending-new before now s = ascending-filter (λ e. not (has_row before e)) now s

-- the earlier library without the gone ids and with the new rows is the later one
pub difference_made : (before now : Library) → IsLibrary before → IsLibrary now → fold put_in (fold taken_out before (gone_ids before now)) (new_rows before now) ≡ now
difference_made before now s t =
    let left : Library = fold taken_out before (gone_ids before now) in
    same_pairs (fold put_in left (new_rows before now)) now (ascending-puts left (new_rows before now) (ascending-outs before (gone_ids before now) s.ascends)) t.ascends
    (λ q.
    at-puts q left (new_rows before now) (ascending-new before now t.ascends)
    ∙ (λ i. option_or (at-new q before now t.ascends i) (at-outs q before (gone_ids before now) s.ascends i))
    ∙ ap (λ b. option_or (option_and_then (new_at (at q before)) (at q now)) (cond b None (at q before))) (has-gone q before now)
    ∙ at_one_id q (at q before) (at q now) (λ row h. own_at before q row s h) (λ row h. own_at now q row t h))

-- ---- a library after edits

library_all : (es ds : List Edit) → library (es ++ ds) ≡ fold with_edit (library es) ds
library_all es [] = ap library (append-nil es)
library_all es (d ∷ ds) =
    ap library (sym (append_assoc es (d ∷ []) ds)) ∙ library_all (es ++ d ∷ []) ds ∙ ap (λ l. fold with_edit l ds) (sym (library_more es d))

drops_made : (l : Library) (ids : List ℕ) (ds : List Edit) → fold with_edit l (map (λ id. DropItem id) ids ++ ds) ≡ fold with_edit (fold taken_out l ids) ds
drops_made l [] ds = refl
drops_made l (id ∷ ids) ds = drops_made (taken_out l id) ids ds

puts_made : (l rows : Library) → AllByRecursion IsOwn rows → fold with_edit l (map (λ e. PutItem e.1) rows) ≡ fold put_in l rows
puts_made l [] own = refl
puts_made l (e ∷ rows) own =
    puts_made (put_in l (e.1.id, e.1)) rows own.1 ∙ ap (λ (id : ℕ). fold put_in (put_in l (id, e.1)) rows) own.0.own

-- a library after drops and puts of own rows
edits_made : (l : Library) (ids : List ℕ) (rows : Library) → AllByRecursion IsOwn rows → fold with_edit l (drops_and_puts ids rows) ≡ fold put_in (fold taken_out l ids) rows
edits_made l ids rows own = drops_made l ids (map (λ e. PutItem e.1) rows) ∙ puts_made (fold taken_out l ids) rows own

own_new : (before now : Library) → IsLibrary now → AllByRecursion IsOwn (new_rows before now)
own_new before now is = all_filtered IsOwn (λ e. not (has_row before e)) now is.rows

pub differences_apply : DifferencesApply
differences_apply es now was is =
    library_all es (difference (library es) now) ∙ edits_made (library es) (gone_ids (library es) now) (new_rows (library es) now) (own_new (library es) now is)
    ∙ difference_made (library es) now was is

-- ---- validity

pub valid_ids : (l : Library) → AllByRecursion IsOwn l → AllByRecursion (λ id. is_id id ≡ true) (keys_of l)
valid_ids [] own = tt
valid_ids (e ∷ l) own = (own.0.id, valid_ids l own.1)

valid_rows : (l : Library) → AllByRecursion IsOwn l → AllByRecursion (λ e. is_id e.1.id ≡ true) l
valid_rows [] own = tt
valid_rows (e ∷ l) own = (own_id e.0 e.1 own.0, valid_rows l own.1)

pub differences_are_valid : DifferencesAreValid
differences_are_valid before now was is =
    let ids : List ℕ = gone_ids before now in
    let rows : Library = new_rows before now in
    All-append IsValid (map (λ id. DropItem id) ids) (map (λ e. PutItem e.1) rows)
    (All-map IsValid (λ id. DropItem id) ids
    (All-from_recursion (λ id. is_id id ≡ true) ids (all-kept (λ id. is_id id ≡ true) (λ id. is_none (at id now)) (keys_of before) (valid_ids before was.rows))))
    (All-map IsValid (λ e. PutItem e.1) rows (All-from_recursion (λ e. is_id e.1.id ≡ true) rows (valid_rows rows (own_new before now is))))

-- ---- no edits

no_edits : (ids : List ℕ) (rows : Library) → drops_and_puts ids rows ≡ [] → (ids ≡ []) × (rows ≡ [])
no_edits [] [] h = (refl, refl)
no_edits [] (e ∷ rows) h = absurd (cc)
no_edits (id ∷ ids) rows h = absurd (cc)

one_library : (before now : Library) → IsLibrary before → IsLibrary now → difference before now ≡ [] → before ≡ now
one_library before now was is h =
    let none = no_edits (gone_ids before now) (new_rows before now) h in
    ap (λ (ids : List ℕ). fold put_in (fold taken_out before ids) []) (sym none.0) ∙ ap (fold put_in (fold taken_out before (gone_ids before now))) (sym none.1)
    ∙ difference_made before now was is

none_gone : (l : Library) → IsAscending l → gone_ids l l ≡ []
none_gone l s =
    same_keys_same (gone_ids l l) [] (sorted-filter (λ id. is_none (at id l)) (keys_of l) s) (sorted-ascending [])
    (λ q. has-gone q l l ∙ none_and_some (at q l))
  where
    none_and_some : (o : Option Row) → (is_none o && is_some o) ≡ false
    none_and_some None = refl
    none_and_some (Some row) = refl

pub same_now : (was : Option Row) → option_and_then (new_at was) was ≡ None
same_now None = refl
same_now (Some row) = ap (λ b. only_if (not b) row) (tag_itself (projection row None meta.All))

none_new : (l : Library) → IsAscending l → new_rows l l ≡ []
none_new l s = same_pairs (new_rows l l) [] (ascending-new l l s) (sorted-ascending []) (λ q. at-new q l l s ∙ same_now (at q l))

pub itself : (l : Library) → IsAscending l → difference l l ≡ []
itself l s = ap (λ (ids : List ℕ). drops_and_puts ids (new_rows l l)) (none_gone l s) ∙ ap (λ (rows : Library). drops_and_puts [] rows) (none_new l s)

pub differences_tell : DifferencesTell
differences_tell before now was is = (
  one_library before now was is,
  λ h. subst (λ (l : Library). difference before l ≡ []) h (itself before was.ascends),
)
