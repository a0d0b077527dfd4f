-- Rows whose keys no edit touched are as they were, and only keys that edits name are touched.
use Rattle.std.proofs.Common.{◌≡◌, ℕ, Bool, true, false, cond, ◌||◌, ◌&&◌, ◌==◌, not, List, [], ◌∷◌, ◌++◌, refl, sym, ap, ◌∙◌, true≢false, Option, Some, None}
use Rattle.std.specs.Option.{option_and_then}
use Rattle.std.specs.List.{list_any}
use Rattle.std.proofs.lemmas.Bool.{cond_both, not-true}
use Rattle.std.proofs.lemmas.Grind.{flat_map-append}
use Rattle.item_model.specs.declared.query.Query.{Query}
use Rattle.item_model.specs.declared.changes.Edit.{Edit}
use Rattle.item_model.specs.declared.changes.Edit.TheVariants.{PutItem, DropItem, PutList, PutRule, DropList, PutMember, DropMember}
use Rattle.item_model.specs.declared.request.Target.{Target}
use Rattle.item_model.specs.declared.request.Target.TheVariants.{Items, Container}
use Rattle.share_history.specs.Numbers.{base_list}
use Rattle.share_history.specs.Keyed.{AreAscending, ascending}
use Rattle.share_history.specs.Histories.{edits, later, up_to}
use Rattle.share_history.specs.LastSaid.{Playlist, Plain, Ruled, item_at, list_at, member_at}
use Rattle.share_history.specs.Named.{names_item, names_list, names_member, keys_in, named_keys}
use Rattle.share_history.specs.Rows.{if_selected, in_list, in_target, row_at}
use Rattle.share_history.specs.Kept.{is_left, names_its_item, touches_in, touches, touched}
use Rattle.share_history.proofs.KeyedFacts.{has, same_keys_same, sorted-ascending, has-ascending, has-filter, sorted-filter}
use Rattle.share_history.proofs.EditFacts.{edits-split, first_false, second_false, both_false, has-append, other_key, item_stays, list_stays, member_stays, member_unnamed, and_second_false}

-- ---- rows that stay

member_row_stays : (found : Option ℕ) (es ds : List Edit) → names_its_item found ds ≡ false → option_and_then (item_at (es ++ ds)) found ≡ option_and_then (item_at es) found
member_row_stays None es ds h = refl
member_row_stays (Some item) es ds h = item_stays es ds item h

list_row_stays : (l : Option Playlist) (es ds : List Edit) (c k : ℕ) → list_any (names_list c) ds ≡ false → touches_in l (es ++ ds) c ds k ≡ false
    → in_list l (es ++ ds) c k ≡ in_list l es c k
list_row_stays None es ds c k h t = refl
list_row_stays (Some (Plain name)) es ds c k h t =
    let named : Bool = list_any (names_member c k) ds in
    let item : Bool = names_its_item (member_at (es ++ ds) c k) ds in
    member_row_stays (member_at (es ++ ds) c k) es ds (second_false named item t) ∙ ap (option_and_then (item_at es)) (member_stays es ds c k h (first_false named item t))
list_row_stays (Some (Ruled name rule)) es ds c k h t = ap (option_and_then (if_selected (Some rule))) (item_stays es ds k t)

container_row_stays : (b : Bool) (es ds : List Edit) (c k : ℕ) → (b || not (list_any (names_list c) ds)) ≡ true
    → cond b (list_any (names_item k) ds) (touches_in (list_at (es ++ ds) c) (es ++ ds) c ds k) ≡ false
    → cond b (item_at (es ++ ds) k) (in_list (list_at (es ++ ds) c) (es ++ ds) c k) ≡ cond b (item_at es k) (in_list (list_at es c) es c k)
container_row_stays true es ds c k l t = item_stays es ds k t
container_row_stays false es ds c k l t =
    let unnamed = not-true (list_any (names_list c) ds) l in
    list_row_stays (list_at (es ++ ds) c) es ds c k unnamed t ∙ ap (λ x. in_list x es c k) (list_stays es ds c unnamed)

target_stays : (es ds : List Edit) (t : Target) (k : ℕ) → is_left t ds ≡ true → touches (es ++ ds) t ds k ≡ false → in_target (es ++ ds) t k ≡ in_target es t k
target_stays es ds Items k l h = item_stays es ds k h
target_stays es ds (Container c) k l h = container_row_stays (c == base_list) es ds c k l h

-- if some edits neither touch a key nor put or drop its list, its row stays as before them
pub row_stays : (es ds : List Edit) (t : Target) (q : Option Query) (k : ℕ) → is_left t ds ≡ true → touches (es ++ ds) t ds k ≡ false
    → row_at (es ++ ds) t q k ≡ row_at es t q k
row_stays es ds t q k l h = ap (option_and_then (if_selected q)) (target_stays es ds t k l h)

-- ---- only named keys are touched

names_no_item : (k : ℕ) (e : Edit) → has k (keys_in e) ≡ false → names_item k e ≡ false
names_no_item k (PutItem row) h = other_key k row.id h
names_no_item k (DropItem id) h = other_key k id h
names_no_item k (PutList list name) h = refl
names_no_item k (PutRule list name rule) h = refl
names_no_item k (DropList list) h = refl
names_no_item k (PutMember list member item) h = refl
names_no_item k (DropMember list member) h = refl

names_no_member : (c k : ℕ) (e : Edit) → has k (keys_in e) ≡ false → names_member c k e ≡ false
names_no_member c k (PutItem row) h = refl
names_no_member c k (DropItem id) h = refl
names_no_member c k (PutList list name) h = refl
names_no_member c k (PutRule list name rule) h = refl
names_no_member c k (DropList list) h = refl
names_no_member c k (PutMember list member item) h = and_second_false (list == c) (member == k) (other_key k member h)
names_no_member c k (DropMember list member) h = and_second_false (list == c) (member == k) (other_key k member h)

none_names : (names : Edit → Bool) (k : ℕ) → ((e : Edit) → has k (keys_in e) ≡ false → names e ≡ false) → (es : List Edit) → has k (named_keys es) ≡ false → list_any names es ≡ false
none_names names k quiet [] h = refl
none_names names k quiet (e ∷ es) h =
    let parts = sym (has-append k (keys_in e) (named_keys es)) ∙ h in
    both_false (names e) (list_any names es) (quiet e (first_false (has k (keys_in e)) (has k (named_keys es)) parts))
    (none_names names k quiet es (second_false (has k (keys_in e)) (has k (named_keys es)) parts))

untouched_in : (l : Option Playlist) (all ds : List Edit) (c k : ℕ) → has k (named_keys all) ≡ false → has k (named_keys ds) ≡ false → touches_in l all c ds k ≡ false
untouched_in None all ds c k h d = refl
untouched_in (Some (Plain name)) all ds c k h d =
    both_false (list_any (names_member c k) ds) (names_its_item (member_at all c k) ds) (none_names (names_member c k) k (names_no_member c k) ds d)
    (ap (λ found. names_its_item found ds) (member_unnamed all c k h))
untouched_in (Some (Ruled name rule)) all ds c k h d = none_names (names_item k) k (names_no_item k) ds d

-- edits touch no key that neither they nor any edit before them name
pub unnamed_untouched : (all ds : List Edit) (t : Target) (k : ℕ) → has k (named_keys all) ≡ false → has k (named_keys ds) ≡ false → touches all t ds k ≡ false
unnamed_untouched all ds Items k h d = none_names (names_item k) k (names_no_item k) ds d
unnamed_untouched all ds (Container c) k h d =
    cond_both (c == base_list) (list_any (names_item k) ds) (touches_in (list_at all c) all c ds k) (λ b. b ≡ false) (λ _. none_names (names_item k) k (names_no_item k) ds d)
    (λ _. untouched_in (list_at all c) all ds c k h d)

-- nothing is touched by no edits
pub untouched : (all : List Edit) (t : Target) (k : ℕ) → touches all t [] k ≡ false
untouched all Items k = refl
untouched all (Container c) k = cond_both (c == base_list) false (touches_in (list_at all c) all c [] k) (λ b. b ≡ false) (λ _. refl) (λ _. by_none (list_at all c))
  where
    by_item : (found : Option ℕ) → names_its_item found [] ≡ false
    by_item None = refl
    by_item (Some item) = refl

    by_none : (l : Option Playlist) → touches_in l all c [] k ≡ false
    by_none None = refl
    by_none (Some (Plain name)) = by_item (member_at all c k)
    by_none (Some (Ruled name rule)) = refl

-- ---- the touched keys

pub has-touched : (bs : List (List Edit)) (t : Target) (base k : ℕ) → has k (touched bs t base) ≡ touches (edits bs) t (later bs base) k
has-touched bs t base k =
    has-filter k (touches (edits bs) t (later bs base)) (ascending (named_keys (edits bs)))
    ∙ ap (λ b. touches (edits bs) t (later bs base) k && b) (has-ascending k (named_keys (edits bs)))
    ∙ and_named (touches (edits bs) t (later bs base) k) (has k (named_keys (edits bs))) (λ h. unnamed_untouched (edits bs) (later bs base) t k h (later_unnamed bs base k h))
  where
    and_named : (a b : Bool) → (b ≡ false → a ≡ false) → (a && b) ≡ a
    and_named true true h = refl
    and_named true false h = absurd (true≢false (h refl))
    and_named false b h = refl

    later_unnamed : (bs : List (List Edit)) (base k : ℕ) → has k (named_keys (edits bs)) ≡ false → has k (named_keys (later bs base)) ≡ false
    later_unnamed bs base k h =
        second_false (has k (named_keys (edits (up_to bs base)))) (has k (named_keys (later bs base)))
        (sym (ap (has k) (ap named_keys (edits-split bs base) ∙ flat_map-append keys_in (edits (up_to bs base)) (later bs base)) ∙ has-append k (named_keys (edits (up_to bs base))) (named_keys (later bs base))) ∙ h)

-- ascending keys that are those that were touched are the touched keys
pub touched_are : (bs : List (List Edit)) (t : Target) (base : ℕ) (ks : List ℕ) → AreAscending ks → ((k : ℕ) → has k ks ≡ touches (edits bs) t (later bs base) k) → ks ≡ touched bs t base
touched_are bs t base ks s h =
    same_keys_same ks (touched bs t base) s (sorted-filter (touches (edits bs) t (later bs base)) (ascending (named_keys (edits bs))) (sorted-ascending (named_keys (edits bs))))
    (λ k. h k ∙ sym (has-touched bs t base k))
