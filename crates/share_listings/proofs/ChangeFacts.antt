-- The changes of the touched keys are the delta.
use Rattle.std.proofs.Common.{◌≡◌, ◌++◌, ℕ, List, [], ◌∷◌, Bool, true, false, cond, not, ◌&&◌, Option, Some, None, is_some, is_none, filter, length, unwrap_or, refl, sym, ap, ◌∙◌}
use Rattle.std.specs.Option.{option_map, option_and_then}
use Rattle.std.specs.List.{cons_option}
use Rattle.std.specs.Map.{keys_of}
use Rattle.std.proofs.lemmas.List.{length-map}
use Rattle.std.proofs.Math.Bool.{and-true, and-false}
use Rattle.dmap_tags.specs.Tree.{Tree}
use Rattle.dmap_tags.specs.SameTags.{is_same_tag}
use Rattle.item_model.specs.declared.changes.Edit.{Edit}
use Rattle.item_model.specs.declared.item.Row.{Row}
use Rattle.item_model.specs.declared.request.Look.{Look}
use Rattle.item_model.specs.declared.request.Meta.{Meta}
use Rattle.item_model.specs.declared.request.Target.{Target}
use Rattle.item_model.specs.Projection.{asked, listed_row}
use Rattle.share_history.specs.Differences.{new_tags, gone_keys}
use Rattle.share_history.specs.Histories.{edits, revision, up_to}
use Rattle.share_history.specs.Keyed.{at, pairs_at}
use Rattle.share_history.specs.Kept.{is_kept, touched}
use Rattle.share_history.specs.LastSaid.{only_if}
use Rattle.share_history.specs.Listings.{member_of, shown, shown_rows, shown_after, delta_listing}
use Rattle.share_history.specs.Rows.{in_target}
use Rattle.share_history.proofs.KeyedFacts.{has, same_pairs, same_keys_same, at-pairs_at, ascending-pairs_at, sorted-filter, has-filter}
use Rattle.share_history.proofs.TouchFacts.{has-touched}
use Rattle.share_history.proofs.DifferenceFacts.{at-new, has-gone, ascending-new, same_not_new, new_at, none_and_some}
use Rattle.share_history.proofs.MirrorFacts.{shown_at, at-shown, ascending-shown, ascending-after}
use Rattle.share_history.proofs.DeltaFacts.{at-shown_rows, kept_left, row_as_then, none_shown}
use Rattle.share_history.proofs.OwnFacts.{selected_some}
use Rattle.listing_plan.specs.declared.row.PlanRow.{PlanRow}
use Rattle.listing_plan.specs.Plans.{key_of, keyed, delta_plan}
use Rattle.share_listings.specs.Changes.{unless_shown, row_then, row_now, listed_at, is_deleted}
use Rattle.share_listings.proofs.AnswerFacts.{key_shown, sorted-touched}
use Rattle.share_listings.proofs.PlanFacts.{counted}

-- ---- one key

-- what is listed under a key is what is new there
listed_new : (t : Target) (meta : Meta) (k : ℕ) (was is : Option Row)
    → option_map (shown_at t meta k) (option_and_then (unless_shown (member_of t k) (asked meta) was) is) ≡ option_and_then (new_at (option_map (shown_at t meta k) was)) (option_map (shown_at t meta k) is)
listed_new t meta k was None = refl
listed_new t meta k None (Some row) = refl
listed_new t meta k (Some old) (Some row) = shown_or_not (is_same_tag (shown_at t meta k old) (shown_at t meta k row))
  where
    shown_or_not : (b : Bool) → option_map (shown_at t meta k) (cond b None (Some row)) ≡ only_if (not b) (shown_at t meta k row)
    shown_or_not true = refl
    shown_or_not false = refl

some_shown : (show : Row → Tree) (found : Option Row) → is_some (option_map show found) ≡ is_some found
some_shown show None = refl
some_shown show (Some row) = refl

-- ---- all keys

module _ (keep : ℕ) (bs : List (List Edit)) (t : Target) (look : Look) (kept : is_kept keep bs t look.base ≡ true) where
  abbrev was_shown : List (ℕ × Tree)
  was_shown = shown_after (up_to bs look.base) t look

  abbrev is_shown : List (ℕ × Tree)
  is_shown = shown_after bs t look

  abbrev keys_touched : List ℕ
  keys_touched = touched bs t look.base

  abbrev show : ℕ → Row → Tree
  show k = shown_at t look.meta k

  at-was : (k : ℕ) → at k was_shown ≡ option_map (show k) (row_then bs t look k)
  at-was k = at-shown_rows (edits (up_to bs look.base)) t look.query look.meta k

  at-is : (k : ℕ) → at k is_shown ≡ option_map (show k) (row_now bs t look k)
  at-is k = at-shown_rows (edits bs) t look.query look.meta k

  untouched_same : (k : ℕ) → has k keys_touched ≡ false → row_now bs t look k ≡ row_then bs t look k
  untouched_same k h = row_as_then bs t look.query look.base k (kept_left keep bs t look.base kept) (sym (has-touched bs t look.base k) ∙ h)

  at-listed : (k : ℕ) → at k (shown_rows t look.meta (pairs_at (listed_at bs t look) keys_touched)) ≡ option_map (show k) (cond (has k keys_touched) (listed_at bs t look k) None)
  at-listed k = at-shown t look.meta k (pairs_at (listed_at bs t look) keys_touched) ∙ ap (option_map (show k)) (at-pairs_at k (listed_at bs t look) keys_touched)

  listed_or_not : (k : ℕ) (b : Bool) → has k keys_touched ≡ b → option_map (show k) (cond b (listed_at bs t look k) None) ≡ at k (new_tags was_shown is_shown)
  listed_or_not k true h =
      listed_new t look.meta k (row_then bs t look k) (row_now bs t look k)
      ∙ sym (at-new k was_shown is_shown (ascending-after bs t look) ∙ (λ i. option_and_then (new_at (at-was k i)) (at-is k i)))
  listed_or_not k false h =
      sym
      (same_not_new k was_shown is_shown (ascending-after bs t look) (at-is k ∙ ap (option_map (show k)) (untouched_same k h) ∙ sym (at-was k)))

  -- the rows that are listed under the touched keys are shown as the new tags
  listed_all : shown_rows t look.meta (pairs_at (listed_at bs t look) keys_touched) ≡ new_tags was_shown is_shown
  listed_all =
      same_pairs (shown_rows t look.meta (pairs_at (listed_at bs t look) keys_touched)) (new_tags was_shown is_shown)
      (ascending-shown t look.meta (pairs_at (listed_at bs t look) keys_touched) (ascending-pairs_at (listed_at bs t look) keys_touched (sorted-touched bs t look.base)))
      (ascending-new was_shown is_shown (ascending-after bs t look)) (λ k. at-listed k ∙ listed_or_not k (has k keys_touched) refl)

  gone_is : (k : ℕ) → has k (gone_keys was_shown is_shown) ≡ is_deleted bs t look k
  gone_is k =
      has-gone k was_shown is_shown ∙ (λ i. is_none (at-is k i) && is_some (at-was k i))
      ∙ (λ i. none_shown (show k) (row_now bs t look k) i && some_shown (show k) (row_then bs t look k) i)

  deleted_or_not : (k : ℕ) (b : Bool) → has k keys_touched ≡ b → (is_deleted bs t look k && b) ≡ is_deleted bs t look k
  deleted_or_not k true h = and-true (is_deleted bs t look k)
  deleted_or_not k false h = and-false (is_deleted bs t look k) ∙ sym (ap (λ o. is_none o && is_some (row_then bs t look k)) (untouched_same k h) ∙ none_and_some (row_then bs t look k))

  -- the touched keys that are deleted are the gone keys
  deleted_all : filter (is_deleted bs t look) keys_touched ≡ gone_keys was_shown is_shown
  deleted_all =
      same_keys_same (filter (is_deleted bs t look) keys_touched) (gone_keys was_shown is_shown) (sorted-filter (is_deleted bs t look) keys_touched (sorted-touched bs t look.base))
      (sorted-filter (λ key. is_none (at key is_shown)) (keys_of was_shown) (ascending-after (up_to bs look.base) t look))
      (λ k. has-filter k (is_deleted bs t look) keys_touched ∙ deleted_or_not k (has k keys_touched) refl ∙ sym (gone_is k))

  -- the plan of these changes is the delta
  pub delta_is : (v : ℕ) (keys gone : List ℕ) (found : List PlanRow) → v ≡ revision bs → keys ≡ keys_touched → keyed found ≡ pairs_at (listed_at bs t look) keys
      → gone ≡ filter (is_deleted bs t look) keys → delta_plan t v found gone look.meta ≡ delta_listing bs t look look.base
  delta_is v keys gone found now all listed deleted =
      let rows_are : shown_rows t look.meta (keyed found) ≡ new_tags was_shown is_shown = ap (shown_rows t look.meta) (listed ∙ ap (pairs_at (listed_at bs t look)) all) ∙ listed_all in
      let gone_are : gone ≡ gone_keys was_shown is_shown = deleted ∙ ap (filter (is_deleted bs t look)) all ∙ deleted_all in
      let count : length found ≡ length (new_tags was_shown is_shown) = sym (counted found) ∙ sym (length-map (keyed found) (shown t look.meta)) ∙ ap length rows_are in
      λ i. record { is_delta = true; revision = now i; total = count i; rows = rows_are i; gone = gone_are i }

-- ---- a row that is listed

there_now : (member : Option ℕ) (meta : Meta) (was is : Option Row) (row : Row) → Some row ≡ option_and_then (unless_shown member (asked meta) was) is → is ≡ Some row
there_now member meta was None row h = absurd (cc)
there_now member meta None (Some other) row h = sym h
there_now member meta (Some old) (Some other) row h = by_test (is_same_tag (listed_row old member (asked meta)) (listed_row other member (asked meta))) h
  where
    by_test : (b : Bool) → Some row ≡ cond b None (Some other) → Some other ≡ Some row
    by_test true e = absurd (cc)
    by_test false e = sym e

-- it is the item of its key
pub listed_there : (bs : List (List Edit)) (t : Target) (look : Look) (key : ℕ) (row : Row) → Some row ≡ listed_at bs t look key → in_target (edits bs) t key ≡ Some row
listed_there bs t look key row h =
    selected_some look.query (in_target (edits bs) t key) row (there_now (member_of t key) look.meta (row_then bs t look key) (row_now bs t look key) row h)

-- ---- one key more

-- a key adds the row that is listed there, or nothing
pub listed_more : (bs : List (List Edit)) (t : Target) (look : Look) (key : ℕ) (row : Row) (old new : List (ℕ × Row)) → Some row ≡ listed_at bs t look key
    → new ≡ old ++ (key, row) ∷ [] → new ≡ old ++ pairs_at (listed_at bs t look) (key ∷ [])
listed_more bs t look key row old new h pushed = pushed ∙ ap (λ o. old ++ cons_option (option_map (λ x. (key, x)) o) []) h

keyed_more : (rs : List PlanRow) (r : PlanRow) → keyed (rs ++ r ∷ []) ≡ keyed rs ++ (key_of r, r.row) ∷ []
keyed_more [] r = refl
keyed_more (first ∷ rs) r = ap (λ l. (key_of first, first.row) ∷ l) (keyed_more rs r)

-- a row that is pushed under its key
pub shared_more : (es : List Edit) (t : Target) (key : ℕ) (row : Row) (member : Option ℕ) (found : Row) (old new : List PlanRow) → member ≡ member_of t key
    → in_target es t key ≡ Some row → Some found ≡ Some row → new ≡ old ++ record { member = member; row = found } ∷ [] → keyed new ≡ keyed old ++ (key, row) ∷ []
shared_more es t key row member found old new is there same pushed =
    let one : found ≡ row = cc in
    let its_key : unwrap_or member found.id ≡ key = (λ i. unwrap_or (is i) (one i).id) ∙ key_shown es t key row there in
    ap keyed pushed ∙ keyed_more old (record { member = member; row = found }) ∙ (λ i. keyed old ++ (its_key i, one i) ∷ [])
