-- What a mirror holds after a body that is a listing, and after the body of a response.
use Rattle.std.proofs.Common.{◌≡◌, ℕ, ◌+◌, ◌<◌, ◌≤◌, List, [], ◌∷◌, ◌++◌, Bool, true, false, cond, not, ◌&&◌, nat_le, length, map, filter, get_or, Option, Some, Result, Ok, Err, refl, sym, ap, subst, ◌∙◌, arith, true≢false, leb-true}
use Rattle.std.specs.List.{All}
use Rattle.std.specs.Option.{option_map_or}
use Rattle.std.proofs.lemmas.List.Elements.{All-map, All-filter}
use Rattle.dmap_tags.specs.Codes.{code}
use Rattle.dmap_tags.specs.Tree.{Tree, list, leaf, more, trees_of, U32}
use Rattle.item_model.specs.Projection.{asked, shown as properties_shown}
use Rattle.item_model.specs.declared.changes.Edit.{Edit}
use Rattle.item_model.specs.declared.item.Row.{Row}
use Rattle.item_model.specs.declared.query.Query.{Query}
use Rattle.item_model.specs.declared.request.Meta.{Meta}
use Rattle.item_model.specs.declared.request.Target.{Target}
use Rattle.item_model.specs.declared.request.Target.TheVariants.{Items, Container}
use Rattle.share_history.specs.Bodies.{start_tags, gone_tags, body_tree, listing_body}
use Rattle.share_history.specs.Histories.{batches, edits, later, revision, up_to}
use Rattle.share_history.specs.Kept.{is_kept, is_left}
use Rattle.share_history.specs.Differences.{has_tag}
use Rattle.share_history.specs.Listings.{Listing, listing, full_listing, delta_listing, shown, shown_rows, shown_after}
use Rattle.share_history.specs.Mirror.{Held, mirror_after, mirrored, mirror_look}
use Rattle.share_history.specs.Numbers.{first_revision}
use Rattle.share_history.specs.Rows.{rows}
use Rattle.share_history.proofs.EditFacts.{batches-append}
use Rattle.share_history.proofs.MirrorFacts.{mirrors_catch_up, full_listings_suffice}
use Rattle.share_history.proofs.OwnFacts.{IsOwn, own_rows}
use Rattle.mirror_core.specs.After.{after_body, listing_in, listing_told}
use Rattle.mirror_core.specs.Bodies.{is_listings, IsRow, IsListing}
use Rattle.mirror_core.specs.Laws.{FullBodiesSuffice, ListingsAreFound, MirrorsFollowAnswers}
use Rattle.mirror_core.specs.Reading.{Told, read_tag, listing_of}
use Rattle.mirror_core.proofs.LawFacts.{listings_are_one, listings_are_not_stuck}
use Rattle.mirror_core.proofs.ReadFacts.{read_listing, read_stuck}

-- ---- the listing in a tag

found_by : (target : Target) (base : ℕ) (l : Listing) (tag : Tree) (r : Result Told (Option ℕ)) → read_tag target base tag ≡ r → IsListing target base l tag
    → listing_told target r ≡ Some l
found_by target base l tag (Ok told) e is = ap Some (listings_are_one target base (listing_of target told) l tag (read_listing target base tag told e) is)
found_by target base l tag (Err index) e is = absurd (listings_are_not_stuck target base l tag index is (read_stuck target base tag index e))

listing_found : (target : Target) (base : ℕ) (l : Listing) (tag : Tree) → IsListing target base l tag → listing_in target base tag ≡ Some l
listing_found target base l tag is = found_by target base l tag (read_tag target base tag) refl is

told_by : (target : Target) (base : ℕ) (l : Listing) (tag : Tree) (r : Result Told (Option ℕ)) → read_tag target base tag ≡ r → listing_told target r ≡ Some l
    → IsListing target base l tag
told_by target base l tag (Ok told) e is = subst (λ k. IsListing target base k tag) (same (listing_of target told) l is) (read_listing target base tag told e)
  where
    same : (a b : Listing) → Some a ≡ Some b → a ≡ b
    same a b e = cc
told_by target base l tag (Err index) e is = absurd (cc)

pub listings_are_found : ListingsAreFound
listings_are_found target base l tag = (listing_found target base l tag, told_by target base l tag (read_tag target base tag) refl)

pub after_listing : (target : Target) (held : Held) (l : Listing) (body : Tree) → IsListing target held.revision l body → after_body target held body ≡ mirror_after held l
after_listing target held l body is = ap (λ o. option_map_or (mirror_after held) o held) (listing_found target held.revision l body is)

-- ---- bodies as listings

-- what is shown of a row begins with its key
shown_own : (t : Target) (meta : Meta) (row : ℕ × Row) → IsOwn t row → IsRow t (shown t meta row)
shown_own Items meta row own = record {
  rest = trees_of (properties_shown row.1.item (asked meta));
  tag = ap (λ id. list (code "mlit") (more (leaf (code "miid") (U32 id)) (trees_of (properties_shown row.1.item (asked meta))))) own;
}
shown_own (Container c) meta row own = record { rest = trees_of (leaf (code "miid") (U32 row.1.id) ∷ properties_shown row.1.item (asked meta)); tag = refl }

shown_rows_own : (t : Target) (meta : Meta) (all : List (ℕ × Row)) → All (IsOwn t) all → All (IsRow t) (shown_rows t meta all)
shown_rows_own t meta all own = All-map (IsRow t) (shown t meta) all (λ i d lt. shown_own t meta (get_or all i d) (own i d lt))

all_told : (t : Target) (is_delta : Bool) (revision total listed : ℕ) (rows : List Tree) (gone : List ℕ)
    → filter is_listings (start_tags is_delta revision total listed ++ list (code "mlcl") (trees_of rows) ∷ gone_tags t is_delta gone)
    ≡ start_tags is_delta revision total listed ++ list (code "mlcl") (trees_of rows) ∷ gone_tags t is_delta gone
all_told t true revision total listed rows gone = refl
all_told t false revision total listed rows gone = refl

-- the body of a listing whose rows begin with their keys is that listing
pub body_is_listing : (t : Target) (base : ℕ) (l : Listing) → All (IsRow t) l.rows → (l.is_delta ≡ true → 0 < base) → (l.is_delta ≡ false → l.gone ≡ []) → IsListing t base l (body_tree t l)
body_is_listing t base l rows on_held full = record {
  members = start_tags l.is_delta l.revision l.total (length l.rows) ++ list (code "mlcl") (trees_of (map (λ row. row.1) l.rows)) ∷ gone_tags t l.is_delta l.gone;
  is = refl;
  read = record {
    listed = length l.rows;
    told = all_told t l.is_delta l.revision l.total (length l.rows) (map (λ row. row.1) l.rows) l.gone;
    rows = rows;
    on_held = on_held;
    full = full;
  };
}

first_true : (a b : Bool) → (a && b) ≡ true → a ≡ true
first_true true b h = refl
first_true false b h = h

kept_above : (keep : ℕ) (bs : List (List Edit)) (t : Target) (base : ℕ) → is_kept keep bs t base ≡ true → 0 < base
kept_above keep bs t base h =
    let from : 2 ≤ base =
    leb-true 2 base (first_true (nat_le first_revision base) (nat_le base (revision bs) && (nat_le (revision bs) (base + keep) && is_left t (later bs base))) h) in
    omega arith

full_is_listing : (bs : List (List Edit)) (t : Target) (query : Option Query) (meta : Meta) (asked base : ℕ)
    → IsListing t base (full_listing bs t (mirror_look query meta asked)) (body_tree t (full_listing bs t (mirror_look query meta asked)))
full_is_listing bs t query meta asked base =
    body_is_listing t base (full_listing bs t (mirror_look query meta asked)) (shown_rows_own t meta (rows (edits bs) t query) (own_rows (edits bs) t query))
    (λ h. absurd (true≢false (sym h))) (λ h. refl)

delta_is_listing : (bs : List (List Edit)) (t : Target) (query : Option Query) (meta : Meta) (base : ℕ) → 0 < base
    → IsListing t base (delta_listing bs t (mirror_look query meta base) base) (body_tree t (delta_listing bs t (mirror_look query meta base) base))
delta_is_listing bs t query meta base above =
    body_is_listing t base (delta_listing bs t (mirror_look query meta base) base)
    (All-filter (λ tag. not (has_tag (shown_after (up_to bs base) t (mirror_look query meta base)) tag)) (IsRow t) (shown_rows t meta (rows (edits bs) t query))
    (shown_rows_own t meta (rows (edits bs) t query) (own_rows (edits bs) t query)))
    (λ h. above) (λ h. absurd (true≢false h))

-- the body of the response to a mirror is that response's listing
pub answer_is_listing : (keep : ℕ) (bs : List (List Edit)) (t : Target) (query : Option Query) (meta : Meta) (base : ℕ)
    → IsListing t base (listing keep bs t (mirror_look query meta base)) (body_tree t (listing keep bs t (mirror_look query meta base)))
answer_is_listing keep bs t query meta base = by_kept (is_kept keep bs t base) refl
  where
    by_kept : (b : Bool) → is_kept keep bs t base ≡ b
        → IsListing t base (cond b (delta_listing bs t (mirror_look query meta base) base) (full_listing bs t (mirror_look query meta base)))
        (body_tree t (cond b (delta_listing bs t (mirror_look query meta base) base) (full_listing bs t (mirror_look query meta base))))
    by_kept true e = delta_is_listing bs t query meta base (kept_above keep bs t base e)
    by_kept false e = full_is_listing bs t query meta base base

-- ---- mirrors

pub mirrors_follow_answers : MirrorsFollowAnswers
mirrors_follow_answers keep front after t query meta =
    let base : ℕ = revision (batches front) in
    after_listing t (mirrored (batches front) t query meta) (listing keep (batches (front ++ after)) t (mirror_look query meta base))
    (listing_body keep (front ++ after) t (mirror_look query meta base)) (answer_is_listing keep (batches (front ++ after)) t query meta base)
    ∙ subst (λ bs. mirror_after (mirrored (batches front) t query meta) (listing keep bs t (mirror_look query meta base)) ≡ mirrored bs t query meta)
    (sym (batches-append front after)) (mirrors_catch_up keep (batches front) (batches after) t query meta)

pub full_bodies_suffice : FullBodiesSuffice
full_bodies_suffice held h t query meta asked =
    after_listing t held (full_listing (batches h) t (mirror_look query meta asked)) (body_tree t (full_listing (batches h) t (mirror_look query meta asked)))
    (full_is_listing (batches h) t query meta asked held.revision)
    ∙ full_listings_suffice held (batches h) t query meta asked
