-- What the stores tell of the members of a target.
use Rattle.std.proofs.Common.{◌≡◌, ◌≤◌, ◌+◌, ◌-◌, [], ◌==◌, ◌&&◌, ◌||◌, ℕ, List, Bool, true, false, cond, not, nat_le, Option, Some, None, length, refl, sym, subst, ap, ◌∙◌, arith}
use Rattle.std.specs.Option.{option_and_then}
use Rattle.std.specs.List.{list_any}
use Rattle.std.proofs.lemmas.Bool.{eqb-true, and_parts, and_from, leb-true, le-leb}
use Rattle.std.proofs.Math.ListN.{drop_of_length-le}
use Rattle.item_model.specs.declared.changes.Edit.{Edit}
use Rattle.item_model.specs.declared.item.Row.{Row}
use Rattle.item_model.specs.declared.query.Query.{Query}
use Rattle.item_model.specs.declared.request.Target.{Target}
use Rattle.item_model.specs.declared.request.Target.TheVariants.{Items, Container}
use Rattle.share_history.specs.Histories.{revision, edits, up_to, later}
use Rattle.share_history.specs.Kept.{is_kept, is_left, touched}
use Rattle.share_history.specs.LastSaid.{Playlist, Plain, Ruled, only_if, item_at, list_at}
use Rattle.share_history.specs.Named.{names_list}
use Rattle.share_history.specs.Numbers.{first_revision, base_list}
use Rattle.share_history.specs.Rows.{is_selected, if_selected, in_list, in_target, row_at}
use Rattle.share_history.proofs.EditFacts.{edits-split, list_stays, up_to-now}
use Rattle.share_history.proofs.DeltaFacts.{kept_left}
use Rattle.item_store.specs.Stands.{floor_of}
use Rattle.item_store.specs.Store.{Store}
use Rattle.playlist_store.specs.Words.{ruled, standing}
use Rattle.share_listings.specs.Answers.{is_library}
use Rattle.share_listings.specs.Memberships.{IsBeside, IsMembership, TellsFew, item_under}
use Rattle.share_listings.specs.declared.membership.Membership.{Membership}
use Rattle.share_listings.specs.declared.membership.Membership.TheVariants.{Library, Members}

-- what holds of the listing of items, and of container 1, holds where the rows are all items
pub library_case : (P : Target → Type 0) (t : Target) → is_library t ≡ true → P Items → P (Container base_list) → P t
library_case P Items h items base = items
library_case P (Container c) h items base = subst (λ n. P (Container n)) (sym (eqb-true c base_list h)) base

pub library_rows : (es : List Edit) (t : Target) (q : Option Query) (k : ℕ) → is_library t ≡ true → row_at es t q k ≡ row_at es Items q k
library_rows es t q k h = library_case (λ t. row_at es t q k ≡ row_at es Items q k) t h refl refl

pub library_items : (es : List Edit) (t : Target) (k : ℕ) → is_library t ≡ true → in_target es t k ≡ item_at es k
library_items es t k h = library_case (λ t. in_target es t k ≡ item_at es k) t h refl refl

pub library_touched : (bs : List (List Edit)) (t : Target) (base : ℕ) → is_library t ≡ true → touched bs Items base ≡ touched bs t base
library_touched bs t base h = library_case (λ t. touched bs Items base ≡ touched bs t base) t h refl refl

pub library_kept : (keep : ℕ) (bs : List (List Edit)) (t : Target) (base : ℕ) → is_library t ≡ true → is_kept keep bs Items base ≡ is_kept keep bs t base
library_kept keep bs t base h = library_case (λ t. is_kept keep bs Items base ≡ is_kept keep bs t base) t h refl refl

-- the item of a member is the one in its list
ruled_item : (es : List Edit) (rule : Query) (k : ℕ) (found : Option Row) → item_at es k ≡ found
    → option_and_then (item_at es) (ruled rule k found) ≡ option_and_then (if_selected (Some rule)) found
ruled_item es rule k None is = refl
ruled_item es rule k (Some row) is = asked (is_selected (Some rule) row)
  where
    asked : (b : Bool) → option_and_then (item_at es) (cond b (Some k) None) ≡ only_if b row
    asked true = is
    asked false = refl

standing_item : (list : Option Playlist) (es : List Edit) (c k : ℕ) → option_and_then (item_at es) (standing list es c k) ≡ in_list list es c k
standing_item None es c k = refl
standing_item (Some (Plain name)) es c k = refl
standing_item (Some (Ruled name rule)) es c k = ruled_item es rule k (item_at es k) refl

-- the item under a key of a list is the one of the container's row
list_target : (es : List Edit) (list k : ℕ) → (list == base_list) ≡ false
    → option_and_then (item_at es) (standing (list_at es list) es list k) ≡ in_target es (Container list) k
list_target es list k other =
    standing_item (list_at es list) es list k ∙ ap (λ b. cond b (item_at es k) (in_list (list_at es list) es list k)) (sym other)

pub under_target : (keep : ℕ) (bs : List (List Edit)) (t : Target) (m : Membership) (k : ℕ) → IsMembership keep bs t m
    → option_and_then (item_at (edits bs)) (item_under (edits bs) m k) ≡ in_target (edits bs) t k
under_target keep bs t Library k h = sym (library_items (edits bs) t k h)
under_target keep bs t (Members lists list) k h = list_target (edits bs) list k h.beside ∙ ap (λ t. in_target (edits bs) t k) (sym h.container)

left_unnamed : (is_base is_named : Bool) → is_base ≡ false → (is_base || not is_named) ≡ true → is_named ≡ false
left_unnamed true named h k = absurd (cc)
left_unnamed false true h k = absurd (cc)
left_unnamed false false h k = refl

-- a list with a kept base was the same list then
list_then : (keep : ℕ) (bs : List (List Edit)) (list base : ℕ) → (list == base_list) ≡ false → is_kept keep bs (Container list) base ≡ true
    → list_at (edits bs) list ≡ list_at (edits (up_to bs base)) list
list_then keep bs list base other kept =
    ap (λ es. list_at es list) (edits-split bs base)
    ∙ list_stays (edits (up_to bs base)) (later bs base) list
    (left_unnamed (list == base_list) (list_any (names_list list) (later bs base)) other (kept_left keep bs (Container list) base kept))

-- so what the store of lists has under a key then is the item of then
pub target_then : (keep : ℕ) (bs : List (List Edit)) (list key base : ℕ) (found : Option ℕ) → (list == base_list) ≡ false → is_kept keep bs (Container list) base ≡ true
    → found ≡ standing (list_at (edits bs) list) (edits (up_to bs base)) list key
    → option_and_then (item_at (edits (up_to bs base))) found ≡ in_target (edits (up_to bs base)) (Container list) key
target_then keep bs list key base found other kept h =
    ap (option_and_then (item_at (edits (up_to bs base)))) (h ∙ ap (λ l. standing l (edits (up_to bs base)) list key) (list_then keep bs list base other kept))
    ∙ list_target (edits (up_to bs base)) list key other

-- the present revision is kept, of each target
later_now : (bs : List (List Edit)) → later bs (revision bs) ≡ []
later_now bs = ap edits (drop_of_length-le bs {i = length bs + first_revision - first_revision} (omega arith))

left_now : (t : Target) → is_left t [] ≡ true
left_now Items = refl
left_now (Container c) = or_true (c == base_list)
  where
    or_true : (b : Bool) → (b || true) ≡ true
    or_true true = refl
    or_true false = refl

pub kept_now : (keep : ℕ) (bs : List (List Edit)) (t : Target) → is_kept keep bs t (revision bs) ≡ true
kept_now keep bs t =
    and_from _ _ (le-leb first_revision (revision bs) (omega arith))
    (and_from _ _ (le-leb (revision bs) (revision bs) (omega arith))
    (and_from _ _ (le-leb (revision bs) (revision bs + keep) (omega arith)) (ap (is_left t) (later_now bs) ∙ left_now t)))

-- a kept base is no further back than the stores keep
pub kept_within : (keep : ℕ) (bs : List (List Edit)) (t : Target) (base v : ℕ) → v ≡ revision bs → is_kept keep bs t base ≡ true → (floor_of keep v ≤ base) × (base ≤ v)
kept_within keep bs t base v now kept =
    let first = and_parts (nat_le first_revision base) (nat_le base (revision bs) && (nat_le (revision bs) (base + keep) && is_left t (later bs base))) kept in
    let past = and_parts (nat_le base (revision bs)) (nat_le (revision bs) (base + keep) && is_left t (later bs base)) first.1 in
    let near = and_parts (nat_le (revision bs) (base + keep)) (is_left t (later bs base)) past.1 in
    (omega (arith, now, leb-true first_revision base first.0, leb-true (revision bs) (base + keep) near.0), omega (arith, now, leb-true base (revision bs) past.0))

-- at the present revision a list's store tells what stands now
pub now_standing : (keep : ℕ) (bs : List (List Edit)) (list key v : ℕ) (told : Option ℕ) → v ≡ revision bs
    → (is_kept keep bs (Container list) v ≡ true → told ≡ standing (list_at (edits bs) list) (edits (up_to bs v)) list key)
    → told ≡ standing (list_at (edits bs) list) (edits bs) list key
now_standing keep bs list key v told now h =
    h (subst (λ n. is_kept keep bs (Container list) n ≡ true) (sym now) (kept_now keep bs (Container list)))
    ∙ ap (λ n. standing (list_at (edits bs) list) (edits (up_to bs n)) list key) now
    ∙ ap (λ front. standing (list_at (edits bs) list) (edits front) list key) (up_to-now bs)

pub beside : (keep : ℕ) (bs : List (List Edit)) (t : Target) (m : Membership) → IsMembership keep bs t m → IsBeside m
beside keep bs t Library h = tt
beside keep bs t (Members lists list) h = h.beside

pub told_beside : (items : Store) (t : Target) (m : Membership) → TellsFew items t m → IsBeside m
told_beside items t m h = beside items.keep h.bs t m h.tells.members
