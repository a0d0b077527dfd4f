-- The libraries that a relay reads are those of the share that answers.
use Rattle.std.proofs.Common.{◌≡◌, ℕ, ◌+◌, List, [], ◌∷◌, ◌++◌, ◌==◌, Bool, true, false, cond, not, Option, Some, None, is_none, map, unwrap_or, refl, sym, ap, ap₂, ◌∙◌, subst, append-nil, append_assoc}
use Rattle.std.proofs.lemmas.Bool.{eqb-true}
use Rattle.std.specs.List.{AllByRecursion, position_from}
use Rattle.std.specs.Option.{option_or}
use Rattle.dmap_tags.specs.Tree.{Tree}
use Rattle.item_model.specs.declared.changes.Edit.{Edit}
use Rattle.item_model.specs.declared.changes.Edit.TheVariants.{PutItem, DropItem, PutList, PutRule, DropList, PutMember, DropMember}
use Rattle.item_model.specs.declared.changes.Entry.{Entry}
use Rattle.item_model.specs.declared.item.Row.{Row}
use Rattle.item_model.specs.declared.request.Meta.TheVariants.{All}
use Rattle.item_model.specs.declared.request.Target.TheVariants.{Items}
use Rattle.item_model.specs.Valid.{is_id, is_valid}
use Rattle.mirror_client.specs.Laws.{AreAnswers, NeverFall, last_point}
use Rattle.mirror_client.proofs.FilterFacts.{caught_up}
use Rattle.share_history.specs.Differences.{has_tag, new_tags}
use Rattle.share_history.specs.Histories.{all_edits, batches, revision, up_to}
use Rattle.share_history.specs.Kept.{is_kept}
use Rattle.share_history.specs.LastSaid.{item_at, last_said, only_if, says_item}
use Rattle.share_history.specs.Listings.{Listing, delta_listing, full_listing, listing, shown_after, shown_rows}
use Rattle.share_history.specs.Mirror.{Held, mirror_after, mirror_look, mirrored}
use Rattle.share_history.specs.Rows.{library}
use Rattle.share_history.specs.Whole.{AreWhole, IsWhole, PutsWhole}
use Rattle.share_history.proofs.LawFacts.{library_ascends}
use Rattle.share_history.proofs.MirrorFacts.{full_listings_suffice}
use Rattle.share_history.proofs.RowFacts.{at-library}
use Rattle.share_history.proofs.WholeFacts.{point_whole}
use Rattle.relayed_rows.specs.Libraries.{IsLibrary, IsOwn, Library, library_in}
use Rattle.relayed_rows.specs.Relays.{first_unread, is_unread, libraries_after, nothing_held}
use Rattle.relayed_rows.proofs.LibraryFacts.{all_filtered, holds_of_all, libraries_read_back}
use Rattle.relayed_rows.proofs.RowFacts.{rows_read_back}
use Rattle.relay_share.specs.Laws.{LibrariesAreTheShares}

-- ---- whole edits leave a library

abbrev Finds : ℕ → Option Row → Type 0
Finds k None = Unit {0}
Finds k (Some row) = IsOwn (k, row)

abbrev Says : ℕ → Option (Option Row) → Type 0
Says k None = Unit {0}
Says k (Some found) = Finds k found

edit_says : (k : ℕ) (e : Edit) → is_valid e ≡ true → PutsWhole e → Says k (says_item k e)
edit_says k (PutItem row) valid whole = by_id (row.id == k) refl
  where
    by_id : (b : Bool) → (row.id == k) ≡ b → Says k (only_if b (Some row))
    by_id true is = let same : row.id ≡ k = eqb-true row.id k is in record { own = same; id = subst (λ (n : ℕ). is_id n ≡ true) same valid; item = whole.item }
    by_id false is = tt
edit_says k (DropItem id) valid whole = by_id (id == k)
  where
    by_id : (b : Bool) → Says k (only_if b None)
    by_id true = tt
    by_id false = tt
edit_says k (PutList list name) valid whole = tt
edit_says k (PutRule list name rule) valid whole = tt
edit_says k (DropList list) valid whole = tt
edit_says k (PutMember list member item) valid whole = tt
edit_says k (DropMember list member) valid whole = tt

later_says : (k : ℕ) (later now : Option (Option Row)) → Says k later → Says k now → Says k (option_or later now)
later_says k None now h n = n
later_says k (Some found) now h n = h

all_say : (k : ℕ) (es : List Edit) → AreWhole es → Says k (last_said (says_item k) es)
all_say k [] whole = tt
all_say k (e ∷ es) whole = later_says k (last_said (says_item k) es) (says_item k e) (all_say k es whole.1) (edit_says k e whole.0.0 whole.0.1)

found_says : (k : ℕ) (said : Option (Option Row)) → Says k said → Finds k (unwrap_or said None)
found_says k None h = tt
found_says k (Some found) h = h

found_own : (k : ℕ) (found : Option Row) (row : Row) → found ≡ Some row → Finds k found → IsOwn (k, row)
found_own k found row is h = subst (Finds k) is h

pub whole_library : (es : List Edit) → AreWhole es → IsLibrary (library es)
whole_library es whole = record {
  ascends = library_ascends es;
  rows =
      holds_of_all IsOwn (library es) (library_ascends es)
      (λ k row is. found_own k (item_at es k) row (sym (at-library es k) ∙ is) (found_says k (last_said (says_item k) es) (all_say k es whole)));
}

-- ---- histories

falls_on : (point : List Entry) (points : List (List Entry)) → NeverFall point points → (later : List Entry) × (last_point point points ≡ point ++ later)
falls_on point [] fall = ([], sym (append-nil point))
falls_on point (next ∷ points) fall =
    let more : (later : List Entry) × (last_point next points ≡ next ++ later) = falls_on next points fall.1 in
    (fall.0.0 ++ more.0, more.1 ∙ ap (λ (h : List Entry). h ++ more.0) fall.0.1 ∙ append_assoc point fall.0.0 more.0)

whole_at : (point : List Entry) (points : List (List Entry)) → IsWhole (last_point point points) → NeverFall point points → IsWhole point
whole_at point points whole fall =
    let more : (later : List Entry) × (last_point point points ≡ point ++ later) = falls_on point points fall in
    point_whole point more.0 (subst IsWhole more.1 whole)

-- ---- libraries

abbrev library_at : List Entry → Library
library_at h = library (all_edits h)

read_at : (point : List Entry) (held : Held) → IsWhole point → held ≡ mirrored (batches point) Items None All → library_in held.rows ≡ library_at point
read_at point held whole is = ap (λ (x : Held). library_in x.rows) is ∙ libraries_read_back (library_at point) (whole_library (all_edits point) whole.edits)

read_on : (keep : ℕ) (point : List Entry) (points : List (List Entry)) (ls : List Listing) (held : Held) → held ≡ mirrored (batches point) Items None All
    → IsWhole (last_point point points) → NeverFall point points → AreAnswers keep Items None All (revision (batches point)) points ls
    → libraries_after held ls ≡ map library_at points
read_on keep point [] [] held holds whole fall are = refl
read_on keep point [] (l ∷ ls) held holds whole fall are = absurd are
read_on keep point (next ∷ points) [] held holds whole fall are = absurd are
read_on keep point (next ∷ points) (l ∷ ls) held holds whole fall are =
    let now : mirror_after held l ≡ mirrored (batches next) Items None All = caught_up keep Items None All point fall.0.0 next held l fall.0.1 holds are.0 in
    ap₂ (λ (x : Library) (xs : List Library). x ∷ xs) (read_at next (mirror_after held l) (whole_at next points whole fall.1) now)
    (read_on keep next points ls (mirror_after held l) now whole fall.1 are.1)

pub libraries_are_the_shares : LibrariesAreTheShares
libraries_are_the_shares keep point points [] whole fall are = absurd are
libraries_are_the_shares keep point points (l ∷ ls) whole fall are =
    let now : mirror_after nothing_held l ≡ mirrored (batches point) Items None All =
    ap (λ (x : Listing). mirror_after nothing_held x) are.0 ∙ full_listings_suffice nothing_held (batches point) Items None All 0 in
    ap₂ (λ (x : Library) (xs : List Library). x ∷ xs) (read_at point (mirror_after nothing_held l) (whole_at point points whole fall) now)
    (read_on keep point points ls (mirror_after nothing_held l) now whole fall are.1)

-- ---- each row that a share lists is read

abbrev IsRead : ℕ × Tree → Type 0
IsRead tag = is_unread tag.1 ≡ false

rows_read : (rows : Library) → AllByRecursion IsOwn rows → AllByRecursion IsRead (shown_rows Items All rows)
rows_read [] own = tt
rows_read (e ∷ rows) own =
    let one : IsOwn e = own.0 in
    (ap is_none (rows_read_back e.1 one.item (subst (λ (n : ℕ). is_id n ≡ true) (sym one.own) one.id)), rows_read rows own.1)

none_unread : (n : ℕ) (tags : List (ℕ × Tree)) → AllByRecursion IsRead tags → position_from (λ tag. is_unread tag.1) n tags ≡ None
none_unread n [] read = refl
none_unread n (tag ∷ tags) read =
    ap (λ (b : Bool). cond b (Some n) (position_from (λ t. is_unread t.1) (n + 1) tags)) read.0 ∙ none_unread (n + 1) tags read.1

pub all_are_read : (keep : ℕ) (h : List Entry) (base : ℕ) → IsWhole h → first_unread (listing keep (batches h) Items (mirror_look None All base)) ≡ None
all_are_read keep h base whole = by_kept (is_kept keep (batches h) Items base)
  where
    before : List (ℕ × Tree)
    before = shown_after (up_to (batches h) base) Items (mirror_look None All base)

    all : AllByRecursion IsRead (shown_rows Items All (library (all_edits h)))
    all = rows_read (library (all_edits h)) (whole_library (all_edits h) whole.edits).rows

    by_kept : (kept : Bool)
        → first_unread (cond kept (delta_listing (batches h) Items (mirror_look None All base) base) (full_listing (batches h) Items (mirror_look None All base))) ≡ None
    by_kept true =
        none_unread 0 (new_tags before (shown_rows Items All (library (all_edits h))))
        (all_filtered IsRead (λ tag. not (has_tag before tag)) (shown_rows Items All (library (all_edits h))) all)
    by_kept false = none_unread 0 (shown_rows Items All (library (all_edits h))) all
