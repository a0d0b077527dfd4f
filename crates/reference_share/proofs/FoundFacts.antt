-- The listings that are made of rows and keys that were found.
use Rattle.std.proofs.Common.{◌≡◌, ℕ, ◌-◌, Bor, false, ◌≤◌, subst, Bool, not, [], filter, List, map, length, refl, sym, ap, ◌∙◌, Option, Some, None, is_none}
use Rattle.std.proofs.lemmas.List.{length-map}
use Rattle.dmap_tags.specs.Tree.{Tree}
use Rattle.item_model.specs.declared.item.Row.{Row}
use Rattle.item_model.specs.declared.request.Look.{Look}
use Rattle.item_model.specs.declared.request.Target.{Target}
use Rattle.item_model.specs.declared.changes.Edit.{Edit}
use Rattle.share_history.specs.Histories.{edits, up_to, revision}
use Rattle.share_history.specs.Rows.{rows, row_at}
use Rattle.share_history.specs.Kept.{is_kept}
use Rattle.share_history.specs.Differences.{has_tag, new_tags, gone_keys}
use Rattle.share_history.specs.Ranges.{in_range}
use Rattle.share_history.specs.Listings.{Listing, shown, shown_rows, shown_after, full_of, full_listing, delta_listing, listing, delta_with}
use Rattle.std.proofs.lemmas.Bool.{cond_both}
use Rattle.reference_share.specs.RowSeen.{row_of}
use Rattle.std.specs.Option.{option_map, option_map_or}
use Rattle.std.specs.Map.{keys_of}
use Rattle.dmap_tags.specs.SameTags.{is_same_tag}
use Rattle.item_model.specs.declared.query.Query.{Query}
use Rattle.item_model.specs.declared.request.Meta.{Meta}
use Rattle.share_history.specs.Keyed.{at}
use Rattle.share_history.proofs.MirrorFacts.{shown_at}
use Rattle.share_history.proofs.RangeFacts.{in_range-map, length-full, length-delta}
use Rattle.share_history.proofs.DeltaFacts.{none_shown, at-shown_rows, map-filter, keys-shown}

-- a full listing of rows that the program found
pub full_made : (revision : ℕ) (t : Target) (look : Look) (all listed : List (ℕ × Bor Row)) (tags : List (ℕ × Tree)) (gone : List ℕ) → listed ≡ in_range look.range all
    → tags ≡ shown_rows t look.meta (map row_of listed) → gone ≡ []
    → record { is_delta = false; revision = revision; total = length all; rows = tags; gone = gone } ≡ full_of revision t look (map row_of all)
full_made revision t look all listed tags gone h k g =
    let rows : tags ≡ shown_rows t look.meta (in_range look.range (map row_of all)) = k ∙ ap (λ xs. shown_rows t look.meta (map row_of xs)) h ∙ ap (shown_rows t look.meta) (sym (in_range-map row_of look.range all)) in
    λ i. record { is_delta = false; revision = revision; total = sym (length-map all row_of) i; rows = rows i; gone = g i }

-- no listing lists more rows than there are edits
pub few_full : (bs : List (List Edit)) (t : Target) (look : Look) (l : Listing) → l ≡ full_listing bs t look → length l.rows ≤ length (edits bs)
few_full bs t look l h = subst (λ n. n ≤ length (edits bs)) (ap (λ x. length x.rows) (sym h)) (length-full bs t look)

pub few_listed : (keep : ℕ) (bs : List (List Edit)) (t : Target) (look : Look) (l : Listing) → l ≡ listing keep bs t look → length l.rows ≤ length (edits bs)
few_listed keep bs t look l h =
    subst (λ n. n ≤ length (edits bs)) (ap (λ x. length x.rows) (sym h))
    (cond_both (is_kept keep bs t look.base) (delta_listing bs t look look.base) (full_listing bs t look) (λ x. length x.rows ≤ length (edits bs)) (λ _. length-delta bs t look look.base) (λ _. length-full bs t look))

map_then : {A B : Type 0} (f : A → B) (p : B → Bool) (found : Option A) → option_map_or p (option_map f found) false ≡ option_map_or (λ x. p (f x)) found false
map_then f p None = refl
map_then f p (Some x) = refl

-- whether the tag of a row is shown after some edits is decided by the row that is there
pub shown_then : (es : List Edit) (t : Target) (q : Option Query) (meta : Meta) (row : ℕ × Row) (found : Option Row) → found ≡ row_at es t q row.0
    → has_tag (shown_rows t meta (rows es t q)) (shown t meta row) ≡ option_map_or (λ old. is_same_tag (shown_at t meta row.0 old) (shown_at t meta row.0 row.1)) found false
shown_then es t q meta row found is =
    ap (λ o. option_map_or (λ old. is_same_tag old (shown_at t meta row.0 row.1)) o false) (at-shown_rows es t q meta row.0 ∙ ap (option_map (shown_at t meta row.0)) (sym is))
    ∙ map_then (shown_at t meta row.0) (λ old. is_same_tag old (shown_at t meta row.0 row.1)) found

-- the keys of earlier rows that have no present row are gone
gone_found : (bs : List (List Edit)) (t : Target) (look : Look) (base : ℕ)
    → filter (λ key. is_none (row_at (edits bs) t look.query key)) (keys_of (rows (edits (up_to bs base)) t look.query)) ≡ (delta_listing bs t look base).gone
gone_found bs t look base =
    ap (filter (λ key. is_none (row_at (edits bs) t look.query key))) (sym (keys-shown t look.meta (rows (edits (up_to bs base)) t look.query)))
    ∙ (λ i. filter (λ key. unshown key i) (keys_of (shown_after (up_to bs base) t look)))
  where
    unshown : (key : ℕ) → is_none (row_at (edits bs) t look.query key) ≡ is_none (at key (shown_after bs t look))
    unshown key = sym (ap is_none (at-shown_rows (edits bs) t look.query look.meta key) ∙ none_shown (shown_at t look.meta key) (row_at (edits bs) t look.query key))

abbrev news : List Edit → Target → Option Query → Meta → List (ℕ × Row) → List (ℕ × Row)
news earlier t q meta rs = filter (λ row. not (has_tag (shown_rows t meta (rows earlier t q)) (shown t meta row))) rs

-- a delta of rows and keys that the program found
pub delta_found : (bs : List (List Edit)) (earlier : List Edit) (t : Target) (look : Look) (q : Option Query) (base revised : ℕ) (all all_read listed listed_read old old_read : List (ℕ × Bor Row)) (gone : List ℕ)
    → revised ≡ revision bs → q ≡ look.query → earlier ≡ edits (up_to bs base) → map row_of all ≡ rows (edits bs) t q → all_read ≡ all
    → map row_of listed ≡ news earlier t q look.meta (map row_of all_read) → listed_read ≡ listed → map row_of old ≡ rows earlier t q → old_read ≡ old
    → gone ≡ filter (λ key. is_none (row_at (edits bs) t q key)) (keys_of (map row_of old_read))
    → delta_with revised (shown_rows t look.meta (map row_of listed_read)) gone ≡ delta_listing bs t look base
delta_found bs earlier t look q base revised all all_read listed listed_read old old_read gone v asked e a ar l lr o or g =
    let all_is : map row_of all_read ≡ rows (edits bs) t look.query = ap (map row_of) ar ∙ a ∙ ap (rows (edits bs) t) asked in
    let old_is : map row_of old_read ≡ rows (edits (up_to bs base)) t look.query = ap (map row_of) or ∙ o ∙ (λ i. rows (e i) t (asked i)) in
    let listed_is : shown_rows t look.meta (map row_of listed_read) ≡ new_tags (shown_after (up_to bs base) t look) (shown_after bs t look) =
    ap (shown_rows t look.meta) (ap (map row_of) lr ∙ l ∙ (λ i. news (e i) t (asked i) look.meta (all_is i)))
    ∙ map-filter (shown t look.meta) (λ tag. not (has_tag (shown_after (up_to bs base) t look) tag)) (rows (edits bs) t look.query) in
    let gone_is : gone ≡ gone_keys (shown_after (up_to bs base) t look) (shown_after bs t look) =
    g ∙ (λ i. filter (λ key. is_none (row_at (edits bs) t (asked i) key)) (keys_of (old_is i))) ∙ gone_found bs t look base in
    λ i. delta_with (v i) (listed_is i) (gone_is i)
