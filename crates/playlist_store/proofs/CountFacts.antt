-- The ids of the lists, and the lists after more edits.
use Rattle.std.proofs.Common.{◌≡◌, ◌+◌, ◌==◌, ℕ, Bool, true, false, cond, List, [], ◌∷◌, ◌++◌, length, fold, Option, Some, None, is_some, unwrap_or, refl, sym, ap, ◌∙◌, true≢false, nat_cmp, is_eq, append-nil, append_assoc}
use Rattle.std.specs.List.{list_any}
use Rattle.std.specs.Map.{keys_of}
use Rattle.std.specs.Set.{remove_key}
use Rattle.std.specs.BTreeMap.{is_at}
use Rattle.std.specs.Cmp.{nat_cmp_total}
use Rattle.std.proofs.lemmas.Map.Entries.{length-keys_of}
use Rattle.item_model.specs.declared.changes.Edit.{Edit}
use Rattle.item_model.specs.declared.changes.Edit.TheVariants.{PutItem, DropItem, PutList, PutRule, DropList, PutMember, DropMember}
use Rattle.share_history.specs.Keyed.{at, put_in, taken_out, IsAscending, AreAscending}
use Rattle.share_history.specs.LastSaid.{Playlist, Plain, Ruled, only_if, says_list, list_at}
use Rattle.share_history.specs.Rows.{lists}
use Rattle.share_history.proofs.KeyedFacts.{has, is_eq-cmp, has-keys_of, same_keys_same, at-put, at-out, ascending-put, ascending-out, keys-insert_entry}
use Rattle.share_history.proofs.EditFacts.{list_more}
use Rattle.share_history.proofs.RowFacts.{at-lists, ascending-lists, lists_are}
use Rattle.playlist_store.specs.Reads.{with_list, is_of_list}

-- ascending ids that are those of lists are the ids of the lists
pub list_ids_are : (es : List Edit) (ks : List ℕ) → AreAscending ks → ((c : ℕ) → has c ks ≡ is_some (list_at es c)) → ks ≡ keys_of (lists es)
list_ids_are es ks s h = same_keys_same ks (keys_of (lists es)) s (ascending-lists es) (λ c. h c ∙ sym (has-keys_of c (lists es) ∙ ap is_some (at-lists es c)))

pub counted_ids : (es : List Edit) (ks : List ℕ) → ks ≡ keys_of (lists es) → length ks ≡ length (lists es)
counted_ids es ks is = ap length is ∙ length-keys_of (lists es)

-- ---- the lists after more edits

-- the lists after one edit more: a put replaces the list, a drop removes it
abbrev lists_with : List (ℕ × Playlist) → Edit → List (ℕ × Playlist)
lists_with ls (PutItem row) = ls
lists_with ls (DropItem id) = ls
lists_with ls (PutList list name) = put_in ls (list, Plain name)
lists_with ls (PutRule list name rule) = put_in ls (list, Ruled name rule)
lists_with ls (DropList list) = taken_out ls list
lists_with ls (PutMember list member item) = ls
lists_with ls (DropMember list member) = ls

ascending-lists_with : (ls : List (ℕ × Playlist)) (e : Edit) → IsAscending ls → IsAscending (lists_with ls e)
ascending-lists_with ls (PutItem row) s = s
ascending-lists_with ls (DropItem id) s = s
ascending-lists_with ls (PutList list name) s = ascending-put (list, Plain name) ls s
ascending-lists_with ls (PutRule list name rule) s = ascending-put (list, Ruled name rule) ls s
ascending-lists_with ls (DropList list) s = ascending-out list ls s
ascending-lists_with ls (PutMember list member item) s = s
ascending-lists_with ls (DropMember list member) s = s

said_or_old : (b : Bool) (said old : Option Playlist) → cond b said old ≡ unwrap_or (only_if b said) old
said_or_old true said old = refl
said_or_old false said old = refl

at-lists_with : (c : ℕ) (ls : List (ℕ × Playlist)) (e : Edit) → IsAscending ls → at c (lists_with ls e) ≡ unwrap_or (says_list c e) (at c ls)
at-lists_with c ls (PutItem row) s = refl
at-lists_with c ls (DropItem id) s = refl
at-lists_with c ls (PutList list name) s =
    at-put c (list, Plain name) ls ∙ ap (λ b. cond b (Some (Plain name)) (at c ls)) (is_eq-cmp c list) ∙ said_or_old (list == c) (Some (Plain name)) (at c ls)
at-lists_with c ls (PutRule list name rule) s =
    at-put c (list, Ruled name rule) ls ∙ ap (λ b. cond b (Some (Ruled name rule)) (at c ls)) (is_eq-cmp c list) ∙ said_or_old (list == c) (Some (Ruled name rule)) (at c ls)
at-lists_with c ls (DropList list) s = at-out c list ls s ∙ ap (λ b. cond b None (at c ls)) (is_eq-cmp c list) ∙ said_or_old (list == c) None (at c ls)
at-lists_with c ls (PutMember list member item) s = refl
at-lists_with c ls (DropMember list member) s = refl

lists_more : (es : List Edit) (e : Edit) → lists_with (lists es) e ≡ lists (es ++ e ∷ [])
lists_more es e =
    lists_are (es ++ e ∷ []) (lists_with (lists es) e) (ascending-lists_with (lists es) e (ascending-lists es))
    (λ c. at-lists_with c (lists es) e (ascending-lists es) ∙ ap (unwrap_or (says_list c e)) (at-lists es c) ∙ sym (list_more es e c))

-- ---- their ids

keys-out : {A : Type 0} (k : ℕ) (es : List (ℕ × A)) → keys_of (taken_out es k) ≡ remove_key (is_at (nat_cmp k)) (keys_of es)
keys-out k [] = refl
keys-out k (e ∷ es) = either (is_eq (nat_cmp k e.0)) (keys-out k es)
  where
    either : (b : Bool) → keys_of (taken_out es k) ≡ remove_key (is_at (nat_cmp k)) (keys_of es)
        → keys_of (cond b es (e ∷ taken_out es k)) ≡ cond b (keys_of es) (e.0 ∷ remove_key (is_at (nat_cmp k)) (keys_of es))
    either true rest = refl
    either false rest = ap (λ ks. e.0 ∷ ks) rest

keys-lists_with : (ls : List (ℕ × Playlist)) (e : Edit) → keys_of (lists_with ls e) ≡ with_list (keys_of ls) e
keys-lists_with ls (PutItem row) = refl
keys-lists_with ls (DropItem id) = refl
keys-lists_with ls (PutList list name) = keys-insert_entry nat_cmp nat_cmp_total list (Plain name) ls
keys-lists_with ls (PutRule list name rule) = keys-insert_entry nat_cmp nat_cmp_total list (Ruled name rule) ls
keys-lists_with ls (DropList list) = keys-out list ls
keys-lists_with ls (PutMember list member item) = refl
keys-lists_with ls (DropMember list member) = refl

-- the ids of the lists after more edits are those of before, changed edit by edit
pub list_ids_after : (es ds : List Edit) → fold with_list (keys_of (lists es)) ds ≡ keys_of (lists (es ++ ds))
list_ids_after es [] = ap (λ es. keys_of (lists es)) (sym (append-nil es))
list_ids_after es (d ∷ ds) =
    ap (λ ids. fold with_list ids ds) (sym (keys-lists_with (lists es) d) ∙ ap keys_of (lists_more es d))
    ∙ list_ids_after (es ++ d ∷ []) ds ∙ ap (λ es. keys_of (lists es)) (append_assoc es (d ∷ []) ds)

-- edits that put and drop no list leave them
pub same_ids : (ids : List ℕ) (es : List Edit) → list_any is_of_list es ≡ false → fold with_list ids es ≡ ids
same_ids ids [] h = refl
same_ids ids (PutItem row ∷ es) h = same_ids ids es h
same_ids ids (DropItem id ∷ es) h = same_ids ids es h
same_ids ids (PutList list name ∷ es) h = absurd (true≢false h)
same_ids ids (PutRule list name rule ∷ es) h = absurd (true≢false h)
same_ids ids (DropList list ∷ es) h = absurd (true≢false h)
same_ids ids (PutMember list member item ∷ es) h = same_ids ids es h
same_ids ids (DropMember list member ∷ es) h = same_ids ids es h
