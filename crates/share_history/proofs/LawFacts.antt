-- The laws of lists, members, bases and bodies.
use Rattle.std.proofs.Common.{◌≡◌, ℕ, ◌+◌, ◌<◌, Bool, true, false, cond, ◌&&◌, ◌==◌, nat_le, List, [], ◌∷◌, ◌++◌, map, length, refl, sym, ap, ◌∙◌, subst, true≢false, inl, inr, Option, Some, None, is_some, not, unwrap_or, arith, eq-eqb, leb-true, append_assoc, append-nil}
use Rattle.std.specs.Option.{option_and_then}
use Rattle.std.specs.List.{list_any}
use Rattle.std.proofs.lemmas.Bool.{false_from_ne_true, false≢true}
use Rattle.std.proofs.lemmas.List.{length-map}
use Rattle.dmap_tags.specs.Tree.{Tree, trees_of, tree_list}
use Rattle.item_model.specs.declared.query.Query.{Query}
use Rattle.item_model.specs.declared.changes.Edit.{Edit}
use Rattle.item_model.specs.declared.changes.Edit.TheVariants.{PutItem, DropItem, PutList, PutRule, DropList, PutMember, DropMember}
use Rattle.item_model.specs.declared.request.Target.TheVariants.{Items, Container}
use Rattle.share_history.specs.Numbers.{first_revision, base_list}
use Rattle.share_history.specs.Histories.{edits, later, revision}
use Rattle.share_history.specs.LastSaid.{Playlist, Plain, Ruled, only_if, says_list, says_member, item_at, list_at, member_at}
use Rattle.share_history.specs.Named.{names_list}
use Rattle.share_history.specs.Rows.{if_selected, in_list, row_at, rows}
use Rattle.share_history.specs.Kept.{is_kept, is_left}
use Rattle.share_history.specs.Differences.{new_tags, gone_keys}
use Rattle.share_history.specs.Listings.{shown_after}
use Rattle.share_history.specs.Laws.{is_plain, puts_member, LibraryAscends, OpensWithTheBatch, ListsBeginWithoutMembers, ListsBeginEmpty, MembersNeedAList, MembersFollowTheirItems, BasesArePast, NewTargetsAreNotKept, NothingChangedSinceNow, BodiesTellTheirRows}
use Rattle.share_history.proofs.KeyedFacts.{sorted-ascending}
use Rattle.share_history.proofs.EditFacts.{both_false, first_false, second_false, edits-split, up_to-now, up_to-revision, list_more, member_more, list_stays, member_stays, edits-opening, and_second_false}
use Rattle.share_history.proofs.RowFacts.{rows_are, ascending-library}
use Rattle.share_history.proofs.DifferenceFacts.{nothing_new, nothing_gone}
use Rattle.share_history.proofs.MirrorFacts.{ascending-after}

pub library_ascends : LibraryAscends
library_ascends es = ascending-library es

pub opens_with_the_batch : OpensWithTheBatch
opens_with_the_batch es = edits-opening es

-- ---- lists begin empty

-- a put or a drop of a list says of each member that it is not there
says_gone : (e : Edit) (c m : ℕ) → names_list c e ≡ true → says_member c m e ≡ Some None
says_gone (PutItem row) c m h = absurd (true≢false (sym h))
says_gone (DropItem id) c m h = absurd (true≢false (sym h))
says_gone (PutList list name) c m h = ap (λ b. only_if {A = Option ℕ} b None) h
says_gone (PutRule list name rule) c m h = ap (λ b. only_if {A = Option ℕ} b None) h
says_gone (DropList list) c m h = ap (λ b. only_if {A = Option ℕ} b None) h
says_gone (PutMember list member item) c m h = absurd (true≢false (sym h))
says_gone (DropMember list member) c m h = absurd (true≢false (sym h))

pub lists_begin_without_members : ListsBeginWithoutMembers
lists_begin_without_members es e c m h = member_more es e c m ∙ ap (λ said. unwrap_or said (member_at es c m)) (says_gone e c m h)

-- what a target shows of a container that is not container 1
container_row : (es : List Edit) (c : ℕ) (q : Option Query) (k : ℕ) → (c == base_list) ≡ false
    → row_at es (Container c) q k ≡ option_and_then (if_selected q) (in_list (list_at es c) es c k)
container_row es c q k h = ap (λ b. option_and_then (if_selected q) (cond b (item_at es k) (in_list (list_at es c) es c k))) h

no_rows : (es : List Edit) (c : ℕ) (q : Option Query) → (c == base_list) ≡ false → ((k : ℕ) → in_list (list_at es c) es c k ≡ None) → rows es (Container c) q ≡ []
no_rows es c q h empty =
    sym (rows_are es (Container c) q [] (sorted-ascending []) (λ k. sym (container_row es c q k h ∙ ap (option_and_then (if_selected q)) (empty k))))

itself : (c : ℕ) → (c == c) ≡ true
itself c = eq-eqb c c refl

pub lists_begin_empty : ListsBeginEmpty
lists_begin_empty es c name q h = (
  no_rows (es ++ PutList c name ∷ []) c q h
      (λ k.
      ap (λ l. in_list l (es ++ PutList c name ∷ []) c k)
      (list_more es (PutList c name) c ∙ ap (λ b. unwrap_or (only_if b (Some (Plain name))) (list_at es c)) (itself c))
      ∙ ap (option_and_then (item_at (es ++ PutList c name ∷ []))) (lists_begin_without_members es (PutList c name) c k (itself c))),
  no_rows (es ++ DropList c ∷ []) c q h
      (λ k.
      ap (λ l. in_list l (es ++ DropList c ∷ []) c k)
      (list_more es (DropList c) c ∙ ap (λ b. unwrap_or (only_if b None) (list_at es c)) (itself c))),
)

-- ---- members need a plain list

-- at one edit that puts no such member: if no plain list has it before, none has it after
abbrev IsOff : List Edit → ℕ → ℕ → Type 0
IsOff es c m = is_plain (list_at es c) ≡ true → member_at es c m ≡ None

list_step : (b : Bool) (new old : Option Playlist) (member : Option ℕ) → (is_plain old ≡ true → member ≡ None)
    → is_plain (unwrap_or (only_if b new) old) ≡ true → unwrap_or (only_if b None) member ≡ None
list_step true new old member h p = refl
list_step false new old member h p = h p

drop_step : (b : Bool) (member : Option ℕ) → member ≡ None → unwrap_or (only_if b None) member ≡ None
drop_step true member h = refl
drop_step false member h = h

off_said : (e : Edit) (c m : ℕ) (list : Option Playlist) (member : Option ℕ) → (is_plain list ≡ true → member ≡ None) → puts_member c m e ≡ false
    → is_plain (unwrap_or (says_list c e) list) ≡ true → unwrap_or (says_member c m e) member ≡ None
off_said (PutItem row) c m list member h n p = h p
off_said (DropItem id) c m list member h n p = h p
off_said (PutList changed name) c m list member h n p = list_step (changed == c) (Some (Plain name)) list member h p
off_said (PutRule changed name rule) c m list member h n p = list_step (changed == c) (Some (Ruled name rule)) list member h p
off_said (DropList changed) c m list member h n p = list_step (changed == c) None list member h p
off_said (PutMember changed key item) c m list member h n p = ap (λ b. unwrap_or (only_if b (Some item)) member) n ∙ h p
off_said (DropMember changed key) c m list member h n p = drop_step ((changed == c) && (key == m)) member (h p)

off_more : (es : List Edit) (e : Edit) (c m : ℕ) → puts_member c m e ≡ false → IsOff es c m → IsOff (es ++ e ∷ []) c m
off_more es e c m n h p = member_more es e c m ∙ off_said e c m (list_at es c) (member_at es c m) h n (sym (ap is_plain (list_more es e c)) ∙ p)

off_later : (es ds : List Edit) (c m : ℕ) → list_any (puts_member c m) ds ≡ false → IsOff es c m → IsOff (es ++ ds) c m
off_later es [] c m n h = subst (λ xs. IsOff xs c m) (sym (append-nil es)) h
off_later es (d ∷ ds) c m n h =
    subst (λ xs. IsOff xs c m) (append_assoc es (d ∷ []) ds)
    (off_later (es ++ d ∷ []) ds c m (second_false (puts_member c m d) (list_any (puts_member c m) ds) n) (off_more es d c m (first_false (puts_member c m d) (list_any (puts_member c m) ds) n) h))

pub members_need_a_list : MembersNeedAList
members_need_a_list es ds c m item off n =
    subst (λ xs. IsOff xs c m) (append_assoc es (PutMember c m item ∷ []) ds)
    (off_later (es ++ PutMember c m item ∷ []) ds c m n (λ p. absurd (true≢false (sym p ∙ ap is_plain (list_more es (PutMember c m item) c) ∙ off))))

pub members_follow_their_items : MembersFollowTheirItems
members_follow_their_items es ds c m item name q h list member unlisted unnamed =
    container_row (es ++ ds) c q m h
    ∙ ap (option_and_then (if_selected q))
    (ap (λ l. in_list l (es ++ ds) c m) (list_stays es ds c unlisted ∙ list) ∙ ap (option_and_then (item_at (es ++ ds))) (member_stays es ds c m unlisted unnamed ∙ member))

-- ---- bases

not_le : (a b : ℕ) → b < a → nat_le a b ≡ false
not_le a b h = false_from_ne_true (nat_le a b) (λ t. absurd (omega (arith, leb-true a b t)))

pub bases_are_past : BasesArePast
bases_are_past keep bs t base (inl h) = ap (λ b. b && (nat_le base (revision bs) && (nat_le (revision bs) (base + keep) && is_left t (later bs base)))) (not_le first_revision base h)
bases_are_past keep bs t base (inr h) =
    and_second_false (nat_le first_revision base) (nat_le base (revision bs) && (nat_le (revision bs) (base + keep) && is_left t (later bs base)))
    (ap (λ b. b && (nat_le (revision bs) (base + keep) && is_left t (later bs base))) (not_le base (revision bs) h))

-- a base before a put or drop of its list is outside the delta window; without one the list is as at the base
new_list : (keep : ℕ) (bs cs : List (List Edit)) (c : ℕ) (named : Bool) → (c == base_list) ≡ false → list_any (names_list c) (later (bs ++ cs) (revision bs)) ≡ named
    → is_some (list_at (edits bs) c) ≡ false → is_some (list_at (edits (bs ++ cs)) c) ≡ true → is_kept keep (bs ++ cs) (Container c) (revision bs) ≡ false
new_list keep bs cs c true other named gone there =
    and_second_false _ _ (and_second_false _ _ (and_second_false (nat_le (revision (bs ++ cs)) (revision bs + keep)) _ (both_false _ _ other (ap not named))))
new_list keep bs cs c false other unnamed gone there =
    let parts : edits (bs ++ cs) ≡ edits bs ++ later (bs ++ cs) (revision bs) =
    edits-split (bs ++ cs) (revision bs) ∙ ap (λ front. edits front ++ later (bs ++ cs) (revision bs)) (up_to-revision bs cs) in
    let same : list_at (edits (bs ++ cs)) c ≡ list_at (edits bs) c =
    ap (λ es. list_at es c) parts ∙ list_stays (edits bs) (later (bs ++ cs) (revision bs)) c unnamed in
    absurd (false≢true (sym gone ∙ ap is_some (sym same) ∙ there))

new_container : (keep : ℕ) (bs cs : List (List Edit)) (c : ℕ) (is_base : Bool) → (c == base_list) ≡ is_base
    → cond is_base true (is_some (list_at (edits bs) c)) ≡ false → cond is_base true (is_some (list_at (edits (bs ++ cs)) c)) ≡ true
    → is_kept keep (bs ++ cs) (Container c) (revision bs) ≡ false
new_container keep bs cs c true e gone there = absurd (false≢true (sym gone))
new_container keep bs cs c false e gone there = new_list keep bs cs c (list_any (names_list c) (later (bs ++ cs) (revision bs))) e refl gone there

pub new_targets_are_not_kept : NewTargetsAreNotKept
new_targets_are_not_kept keep bs cs Items gone there = absurd (false≢true (sym gone))
new_targets_are_not_kept keep bs cs (Container c) gone there = new_container keep bs cs c (c == base_list) refl gone there

pub nothing_changed_since_now : NothingChangedSinceNow
nothing_changed_since_now bs t look = (
  ap (λ old. new_tags (shown_after old t look) (shown_after bs t look)) (up_to-now bs) ∙ nothing_new (shown_after bs t look) (ascending-after bs t look),
  ap (λ old. gone_keys (shown_after old t look) (shown_after bs t look)) (up_to-now bs) ∙ nothing_gone (shown_after bs t look) (ascending-after bs t look),
)

-- ---- bodies

pub listed_again : (ts : List Tree) → tree_list (trees_of ts) ≡ ts
listed_again [] = refl
listed_again (t ∷ ts) = ap (λ rest. t ∷ rest) (listed_again ts)

pub bodies_tell_their_rows : BodiesTellTheirRows
bodies_tell_their_rows t l = eq-eqb _ _ (sym (ap length (listed_again (map (λ row. row.1) l.rows)) ∙ length-map l.rows (λ row. row.1)))
