-- What a delta lists and deletes under each key, and how much that is.
use Rattle.std.proofs.Common.{◌≡◌, ℕ, ◌+◌, ◌≤◌, nat_le, Bool, true, false, cond, ◌&&◌, List, [], ◌∷◌, map, filter, length, length-append, refl, sym, ap, subst, ◌∙◌, Option, Some, None, is_none, is_some, arith}
use Rattle.std.specs.Option.{option_map}
use Rattle.std.specs.List.{AllByRecursion}
use Rattle.std.specs.Map.{keys_of}
use Rattle.std.proofs.lemmas.Bool.{and_parts, cond_both}
use Rattle.std.proofs.Math.Bool.{and_comm}
use Rattle.std.proofs.lemmas.List.{length-map}
use Rattle.item_model.specs.declared.item.Row.{Row}
use Rattle.item_model.specs.declared.query.Query.{Query}
use Rattle.item_model.specs.declared.changes.Edit.{Edit}
use Rattle.item_model.specs.declared.request.Meta.{Meta}
use Rattle.item_model.specs.declared.request.Look.{Look}
use Rattle.item_model.specs.declared.request.Target.{Target}
use Rattle.share_history.specs.Numbers.{first_revision}
use Rattle.share_history.specs.Keyed.{at, ascending}
use Rattle.share_history.specs.Histories.{edits, later, revision, up_to}
use Rattle.share_history.specs.Named.{named_keys}
use Rattle.share_history.specs.Rows.{row_at, rows}
use Rattle.share_history.specs.Kept.{is_left, is_kept, touches}
use Rattle.share_history.specs.Listings.{shown, shown_rows, shown_after, full_listing, delta_listing, listing}
use Rattle.share_history.specs.Laws.{DeltasListNews, DeltasDeleteWhatIsGone, UntouchedStayShown}
use Rattle.share_history.proofs.KeyedFacts.{keys-map, all-kept, all-pairs_at}
use Rattle.share_history.proofs.EditFacts.{edits-split}
use Rattle.share_history.proofs.RowFacts.{at-rows, length-rows}
use Rattle.share_history.proofs.TouchFacts.{row_stays}
use Rattle.share_history.proofs.RangeFacts.{length-filter}
use Rattle.share_history.proofs.DifferenceFacts.{same_not_new, other_is_new, has-gone}
use Rattle.share_history.proofs.MirrorFacts.{shown_at, at-shown, ascending-after}

-- ---- every listing

-- has the revision
pub listing_revision : (keep : ℕ) (bs : List (List Edit)) (t : Target) (look : Look) → (listing keep bs t look).revision ≡ revision bs
listing_revision keep bs t look =
    cond_both (is_kept keep bs t look.base) (delta_listing bs t look look.base) (full_listing bs t look) (λ l. l.revision ≡ revision bs) (λ _. refl) (λ _. refl)

-- ---- under one key

-- what is shown of nothing is nothing
pub none_shown : {A B : Type 0} (show : A → B) (found : Option A) → is_none (option_map show found) ≡ is_none found
none_shown show None = refl
none_shown show (Some x) = refl

-- what is shown under a key is what is shown of the row there
pub at-shown_rows : (es : List Edit) (t : Target) (q : Option Query) (meta : Meta) (k : ℕ) → at k (shown_rows t meta (rows es t q)) ≡ option_map (shown_at t meta k) (row_at es t q k)
at-shown_rows es t q meta k = at-shown t meta k (rows es t q) ∙ ap (option_map (shown_at t meta k)) (at-rows es t q k)

-- no edit after a base in the delta window puts or drops the list
pub kept_left : (keep : ℕ) (bs : List (List Edit)) (t : Target) (base : ℕ) → is_kept keep bs t base ≡ true → is_left t (later bs base) ≡ true
kept_left keep bs t base h =
    let near : Bool = nat_le (revision bs) (base + keep) in
    let left : Bool = is_left t (later bs base) in
    let past : Bool = nat_le base (revision bs) in
    (and_parts near left (and_parts past (near && left) (and_parts (nat_le first_revision base) (past && (near && left)) h).1).1).1

-- if no edit puts or drops the list, an untouched key has the row that it had at the base
pub row_as_then : (bs : List (List Edit)) (t : Target) (q : Option Query) (base k : ℕ) → is_left t (later bs base) ≡ true → touches (edits bs) t (later bs base) k ≡ false
    → row_at (edits bs) t q k ≡ row_at (edits (up_to bs base)) t q k
row_as_then bs t q base k left h =
    ap (λ es. row_at es t q k) (edits-split bs base)
    ∙ row_stays (edits (up_to bs base)) (later bs base) t q k left (sym (ap (λ es. touches es t (later bs base) k) (edits-split bs base)) ∙ h)

-- ---- the laws

pub deltas_list_news : DeltasListNews
deltas_list_news bs t look base key = (
  same_not_new key (shown_after (up_to bs base) t look) (shown_after bs t look) (ascending-after bs t look),
  other_is_new key (shown_after (up_to bs base) t look) (shown_after bs t look) (ascending-after bs t look),
)

pub deltas_delete_what_is_gone : DeltasDeleteWhatIsGone
deltas_delete_what_is_gone bs t look base key =
    has-gone key (shown_after (up_to bs base) t look) (shown_after bs t look)
    ∙ and_comm (is_none (at key (shown_after bs t look))) (is_some (at key (shown_after (up_to bs base) t look)))

pub untouched_stay_shown : UntouchedStayShown
untouched_stay_shown keep bs t look base key kept h =
    at-shown_rows (edits bs) t look.query look.meta key
    ∙ ap (option_map (shown_at t look.meta key)) (row_as_then bs t look.query base key (kept_left keep bs t base kept) h)
    ∙ sym (at-shown_rows (edits (up_to bs base)) t look.query look.meta key)

-- ---- how much a delta lists and deletes

-- what passes a test of its value
pub map-filter : {A B : Type 0} (f : A → B) (p : B → Bool) (xs : List A) → map f (filter (λ x. p (f x)) xs) ≡ filter p (map f xs)
map-filter f p [] = refl
map-filter f p (x ∷ xs) = first_or_not (p (f x)) (map-filter f p xs)
  where
    first_or_not : (b : Bool) → map f (filter (λ x. p (f x)) xs) ≡ filter p (map f xs)
        → map f (cond b (x ∷ filter (λ x. p (f x)) xs) (filter (λ x. p (f x)) xs)) ≡ cond b (f x ∷ filter p (map f xs)) (filter p (map f xs))
    first_or_not true rest = ap (λ ys. f x ∷ ys) rest
    first_or_not false rest = rest

-- with the keys of the rows
pub keys-shown : (t : Target) (meta : Meta) (rs : List (ℕ × Row)) → keys_of (shown_rows t meta rs) ≡ keys_of rs
keys-shown t meta rs = keys-map (shown t meta) (λ _. refl) rs

-- a delta deletes only keys that edits up to the base name
pub gone_all : (P : ℕ → Type 0) (bs : List (List Edit)) (t : Target) (look : Look) (base : ℕ) → AllByRecursion P (ascending (named_keys (edits (up_to bs base))))
    → AllByRecursion P (delta_listing bs t look base).gone
gone_all P bs t look base h =
    all-kept P (λ key. is_none (at key (shown_after bs t look))) (keys_of (shown_after (up_to bs base) t look))
    (subst (AllByRecursion P) (sym (keys-shown t look.meta (rows (edits (up_to bs base)) t look.query)))
    (all-pairs_at P (row_at (edits (up_to bs base)) t look.query) (ascending (named_keys (edits (up_to bs base)))) h))

-- no more keys than there are edits
pub few_gone : (bs : List (List Edit)) (t : Target) (look : Look) (base : ℕ) → length (delta_listing bs t look base).gone ≤ length (edits bs)
few_gone bs t look base =
    omega (
      arith,
      length-filter (λ key. is_none (at key (shown_after bs t look))) (keys_of (shown_after (up_to bs base) t look)),
      ap length (keys-shown t look.meta (rows (edits (up_to bs base)) t look.query)),
      length-map (rows (edits (up_to bs base)) t look.query) (λ row. row.0),
      length-rows (edits (up_to bs base)) t look.query,
      ap length (edits-split bs base),
      length-append (edits (up_to bs base)) (later bs base),
    )
