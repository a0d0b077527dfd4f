-- The laws of listings: a tag is one listing at most, or stuck at one index.
use Rattle.std.proofs.Common.{◌≡◌, ℕ, ◌+◌, ◌<◌, ◌≤◌, Bool, true, false, cond, List, [], ◌∷◌, ◌++◌, map, take, drop, length, refl, sym, ap, ◌∙◌, subst, inl, inr, ◌⊎◌, ⊎_elim, Option, Some, None, unwrap_or, append_assoc, append-nil, take-append-drop, arith}
use Rattle.std.specs.List.{All}
use Rattle.std.proofs.lemmas.Bool.{cases_order}
use Rattle.std.proofs.lemmas.List.{take-take}
use Rattle.std.proofs.lemmas.List.Elements.{All-head, All-tail}
use Rattle.dmap_tags.specs.Codes.{Four}
use Rattle.dmap_tags.specs.Tree.{Tree, leaf, list, trees_of, tree_list}
use Rattle.item_model.specs.declared.request.Target.{Target}
use Rattle.share_history.specs.Listings.{Listing}
use Rattle.share_history.specs.Bodies.{body_code}
use Rattle.mirror_core.specs.declared.told.Due.{Due}
use Rattle.mirror_core.specs.declared.told.Due.TheVariants.{Nothing}
use Rattle.mirror_core.specs.Bodies.{IsRow, AreMembersOf, Begins, IsStuck}
use Rattle.mirror_core.specs.Laws.{ListingsAreOne, ListingsAreNotStuck, TagsAreStuckOnce}
use Rattle.mirror_core.specs.Reading.{Told, row_of, key_of, listing_of}
use Rattle.mirror_core.proofs.TagFacts.{listed_again}
use Rattle.mirror_core.proofs.ReadFacts.{run_members, told_as, row_back, key_tags, key_back}

-- the members of a tag
members_in_tag : Tree → List Tree
members_in_tag (leaf c l) = []
members_in_tag (list c ts) = tree_list ts

same_members : (c : Four) (tag : Tree) (xs ys : List Tree) → tag ≡ list c (trees_of xs) → tag ≡ list c (trees_of ys) → xs ≡ ys
unfolding members_in_tag
same_members c tag xs ys h k = sym (listed_again xs) ∙ ap members_in_tag (sym h ∙ k) ∙ listed_again ys

-- ---- one listing

-- the contents of a listing give it back
rows_told : (target : Target) (rows : List (ℕ × Tree)) → All (IsRow target) rows → map (row_of target) (map (λ row. row.1) rows) ≡ rows
rows_told target [] all = refl
rows_told target (row ∷ rows) all =
    λ i. (unwrap_or (row_back target row (All-head (IsRow target) row rows all) i) 0, row.1) ∷ rows_told target rows (All-tail (IsRow target) row rows all) i

keys_told : (target : Target) (keys : List ℕ) → map (key_of target) (key_tags target keys) ≡ keys
keys_told target [] = refl
keys_told target (k ∷ keys) = λ i. unwrap_or (key_back target k i) 0 ∷ keys_told target keys i

gone_told : (target : Target) (d : Bool) (gone : List ℕ) → (d ≡ false → gone ≡ []) → map (key_of target) (cond d (key_tags target gone) []) ≡ gone
gone_told target true gone h = keys_told target gone
gone_told target false gone h = sym (h refl)

told_back : (target : Target) (base : ℕ) (l : Listing) (ms : List Tree) → AreMembersOf target base l ms → listing_of target (told_as target base l) ≡ l
told_back target base l ms a = λ i. record {
  is_delta = l.is_delta;
  revision = l.revision;
  total = l.total;
  rows = rows_told target l.rows a.rows i;
  gone = gone_told target l.is_delta l.gone a.full i;
}

members_are_one : (target : Target) (base : ℕ) (a b : Listing) (ms : List Tree) → AreMembersOf target base a ms → AreMembersOf target base b ms → a ≡ b
members_are_one target base a b ms h k =
    sym (told_back target base a ms h)
    ∙ ap (λ (found : Option (Due × Told)). let s : Due × Told = unwrap_or found (Nothing, told_as target base a) in listing_of target s.1) (sym (run_members target base a ms h) ∙ run_members target base b ms k)
    ∙ told_back target base b ms k

pub listings_are_one : ListingsAreOne
listings_are_one target base a b tag h k =
    members_are_one target base a b h.members h.read
    (subst (AreMembersOf target base b) (same_members (body_code target) tag k.members h.members k.is h.is) k.read)

-- ---- one index

-- if members begin a listing, then so does each prefix of them
begins_front : (target : Target) (base : ℕ) (ms rest : List Tree) → Begins target base (ms ++ rest) → Begins target base ms
begins_front target base ms rest (later, listing, a) = (rest ++ later, listing, subst (AreMembersOf target base listing) (append_assoc ms rest later) a)

begins_taken : (target : Target) (base : ℕ) (ms : List Tree) (n : ℕ) → Begins target base ms → Begins target base (take n ms)
begins_taken target base ms n h = begins_front target base (take n ms) (drop n ms) (subst (Begins target base) (sym (take-append-drop n ms)) h)

begins_whole : (target : Target) (base : ℕ) (listing : Listing) (ms : List Tree) → AreMembersOf target base listing ms → Begins target base ms
begins_whole target base listing ms a = ([], listing, subst (AreMembersOf target base listing) (sym (append-nil ms)) a)

members_not_stuck : (target : Target) (base : ℕ) (listing : Listing) (ms : List Tree) (place : ℕ) → AreMembersOf target base listing ms → IsStuck target base ms place → ⊥
members_not_stuck target base listing ms place a s =
    ⊎_elim (λ h. h.1 (begins_taken target base ms (place + 1) (begins_whole target base listing ms a))) (λ h. h.1 (listing, a)) s.here

pub listings_are_not_stuck : ListingsAreNotStuck
listings_are_not_stuck target base listing tag None h k = k h.members h.is
listings_are_not_stuck target base listing tag (Some place) h k =
    members_not_stuck target base listing k.0 place (subst (AreMembersOf target base listing) (same_members (body_code target) tag h.members k.0 h.is k.1) h.read) k.2

-- after an index at which they are stuck no members begin a listing
not_behind : (target : Target) (base : ℕ) (ms : List Tree) (a b : ℕ) → a < b → IsStuck target base ms a → IsStuck target base ms b → ⊥
not_behind target base ms a b lt s t =
    ⊎_elim
    (λ h. h.1 (subst (Begins target base) (take-take (a + 1) b ms (omega arith)) (begins_taken target base (take b ms) (a + 1) t.before)))
    (λ h. absurd (within (length ms) a b lt h.0 (place_within t.here)))
    s.here
  where
    place_within : (b < length ms × ¬ (Begins target base (take (b + 1) ms))) ⊎ ((b ≡ length ms) × ¬ ((listing : Listing) × AreMembersOf target base listing ms)) → b ≤ length ms
    place_within (inl h) = omega (arith, h.0)
    place_within (inr h) = omega (arith, h.0)

    within : (len a b : ℕ) → a < b → a ≡ len → b ≤ len → ⊥
    within len a b lt e le = omega arith

same_place : (target : Target) (base : ℕ) (ms : List Tree) (a b : ℕ) → IsStuck target base ms a → IsStuck target base ms b → a ≡ b
same_place target base ms a b s t =
    ⊎_elim (λ e. e) (λ apart. ⊎_elim (λ lt. absurd (not_behind target base ms a b lt s t)) (λ lt. absurd (not_behind target base ms b a lt t s)) apart) (cases_order a b)

pub tags_are_stuck_once : TagsAreStuckOnce
tags_are_stuck_once target base tag None None h k = refl
tags_are_stuck_once target base tag None (Some b) h k = absurd (h k.0 k.1)
tags_are_stuck_once target base tag (Some a) None h k = absurd (k h.0 h.1)
tags_are_stuck_once target base tag (Some a) (Some b) h k =
    ap Some (same_place target base k.0 a b (subst (λ ms. IsStuck target base ms a) (same_members (body_code target) tag h.0 k.0 h.1 k.1) h.2) k.2)
