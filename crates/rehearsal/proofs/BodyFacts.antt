-- The body of a listing of such rows is a tag that a reader by the standard codes takes.
use Rattle.std.proofs.Common.{◌≡◌, ◌<◌, ◌≤◌, ◌^◌, ℕ, ◌+◌, ◌*◌, ◌%◌, ◌==◌, List, [], ◌∷◌, ◌++◌, Bool, true, false, cond, ◌&&◌, nat_le, not, Some, None, map, filter, length, refl, sym, ap, subst, ◌∙◌, arith, le-leb}
use Rattle.std.specs.List.{AllByRecursion}
use Rattle.std.proofs.lemmas.List.{length-map}
use Rattle.std.proofs.lemmas.Bool.{and_from}
use Rattle.dmap_tags.specs.Codes.{code}
use Rattle.dmap_tags.specs.Tree.{Tree, Trees, leaf, list, none, more, trees_of, U32, levels, levels_in}
use Rattle.dmap_tags.specs.Spelling.{spellings}
use Rattle.dmap_tags.specs.Proper.{IsProperTag, AreProperTags}
use Rattle.code_table.specs.Fits.{fits, all_fit}
use Rattle.code_table.specs.Standard.{standard_rows}
use Rattle.dmap_stream.specs.WholeTag.{is_accepted}
use Rattle.item_model.specs.declared.changes.Edit.{Edit}
use Rattle.item_model.specs.declared.changes.Edit.TheVariants.{PutItem, DropItem}
use Rattle.item_model.specs.declared.item.Row.{Row}
use Rattle.item_model.specs.declared.request.Look.{Look}
use Rattle.item_model.specs.declared.request.Meta.TheVariants.{Default}
use Rattle.item_model.specs.declared.request.Range.TheVariants.{All as whole_range}
use Rattle.item_model.specs.declared.request.Target.TheVariants.{Items}
use Rattle.share_history.specs.Bodies.{start_tags, gone_tags, body_tree}
use Rattle.share_history.specs.Differences.{has_tag}
use Rattle.share_history.specs.Histories.{edits, revision, later, up_to}
use Rattle.share_history.specs.Kept.{is_kept}
use Rattle.share_history.specs.Listings.{Listing, listing, full_listing, delta_listing, shown, shown_rows, shown_after}
use Rattle.share_history.specs.Named.{named_keys, keys_in}
use Rattle.share_history.specs.Ranges.{in_range}
use Rattle.share_history.specs.Rows.{rows}
use Rattle.share_history.proofs.DeltaFacts.{map-filter, gone_all, few_gone}
use Rattle.share_history.proofs.EditFacts.{edits-split}
use Rattle.share_history.proofs.RangeFacts.{length-delta}
use Rattle.share_history.proofs.RowFacts.{length-rows}
use Rattle.share_history.proofs.KeyedFacts.{all-ascending}
use Rattle.listing_plan.proofs.Spelled.{more_length}
use Rattle.listing_plan.proofs.Bodies.{parts_length, gone_length}
use Rattle.rehearsal.specs.Edits.{row_by}
use Rattle.rehearsal.specs.Made.{IsMade, AreMade}
use Rattle.rehearsal.proofs.RowFacts.{rows_made, made_filter, AreGood, rows_good}

-- ---- the rows of a body

tags_in : List (ℕ × Tree) → List Tree
tags_in rows = map (λ row. row.1) rows

rows_fit : (rows : List (ℕ × Tree)) → AreGood rows → all_fit standard_rows (code "mlcl") (trees_of (tags_in rows)) ≡ true
unfolding tags_in
rows_fit [] good = refl
rows_fit (row ∷ rows) good = and_from (fits standard_rows (Some (code "mlcl")) row.1) (all_fit standard_rows (code "mlcl") (trees_of (tags_in rows))) good.0.fit (rows_fit rows good.1)

rows_deep : (rows : List (ℕ × Tree)) → AreGood rows → levels_in (trees_of (tags_in rows)) ≤ 2
unfolding tags_in
rows_deep [] good = omega arith
rows_deep (row ∷ rows) good = omega (arith, good.0.deep, rows_deep rows good.1)

rows_proper : (rows : List (ℕ × Tree)) → AreGood rows → AreProperTags (trees_of (tags_in rows))
unfolding tags_in
rows_proper [] good = tt
rows_proper (row ∷ rows) good = (good.0.proper, rows_proper rows good.1)

rows_short : (rows : List (ℕ × Tree)) → AreGood rows → length (spellings (trees_of (tags_in rows))) ≤ 64 * length rows
unfolding tags_in
rows_short [] good = omega arith
rows_short (row ∷ rows) good = omega (arith, more_length row.1 (trees_of (tags_in rows)), good.0.short, rows_short rows good.1)

-- ---- the keys of a body

abbrev pub AreSmall : List ℕ → Type 0
AreSmall keys = AllByRecursion (λ key. key < 2 ^ 32) keys

key_tags : List ℕ → List Tree
key_tags keys = map (λ key. leaf (code "miid") (U32 key)) keys

keys_fit : (keys : List ℕ) → all_fit standard_rows (code "mudl") (trees_of (key_tags keys)) ≡ true
unfolding key_tags
keys_fit [] = refl
keys_fit (key ∷ keys) = keys_fit keys

keys_deep : (keys : List ℕ) → levels_in (trees_of (key_tags keys)) ≤ 1
unfolding key_tags
keys_deep [] = omega arith
keys_deep (key ∷ keys) = omega (arith, keys_deep keys)

keys_proper : (keys : List ℕ) → AreSmall keys → AreProperTags (trees_of (key_tags keys))
unfolding key_tags
keys_proper [] small = tt
keys_proper (key ∷ keys) small = (small.0, keys_proper keys small.1)

-- what a listing has to be for its body to be read
pub record IsReadable (l : Listing) : Type 0 where
  pub rows : AreGood l.rows
  pub gone : AreSmall l.gone
  pub few : length l.rows ≤ 262144
  pub few_gone : length l.gone ≤ 262144
  pub revision : l.revision < 2 ^ 32
  pub total : l.total < 2 ^ 32

gone_fit : (is_delta : Bool) (keys : List ℕ) → all_fit standard_rows (code "adbs") (trees_of (gone_tags Items is_delta keys)) ≡ true
unfolding key_tags
gone_fit false keys = refl
gone_fit true keys = and_from (all_fit standard_rows (code "mudl") (trees_of (key_tags keys))) true (keys_fit keys) refl

gone_deep : (is_delta : Bool) (keys : List ℕ) → levels_in (trees_of (gone_tags Items is_delta keys)) ≤ 2
unfolding key_tags
gone_deep false keys = omega arith
gone_deep true keys = deep_list (trees_of (key_tags keys)) (keys_deep keys)
  where
    deep_list : (ts : Trees) → levels_in ts ≤ 1 → levels_in (more (list (code "mudl") ts) none) ≤ 2
    deep_list ts h = omega arith

gone_proper : (is_delta : Bool) (keys : List ℕ) → AreSmall keys → AreProperTags (trees_of (gone_tags Items is_delta keys))
unfolding key_tags
gone_proper false keys small = tt
gone_proper true keys small = (keys_proper keys small, tt)

gone_short : (is_delta : Bool) (keys : List ℕ) → length (spellings (trees_of (gone_tags Items is_delta keys))) ≤ 8 + 12 * length keys
gone_short false keys = omega arith
gone_short true keys = omega (arith, gone_length Items keys)

mark_small : (is_delta : Bool) → cond is_delta 1 0 < 2 ^ 8
mark_small true = omega arith
mark_small false = omega arith

members : Listing → Trees
members l = trees_of (start_tags l.is_delta l.revision l.total (length l.rows) ++ list (code "mlcl") (trees_of (tags_in l.rows)) ∷ gone_tags Items l.is_delta l.gone)

body_fits : (l : Listing) → IsReadable l → fits standard_rows None (list (code "adbs") (members l)) ≡ true
unfolding members
body_fits l h = and_from (all_fit standard_rows (code "mlcl") (trees_of (tags_in l.rows))) (all_fit standard_rows (code "adbs") (trees_of (gone_tags Items l.is_delta l.gone))) (rows_fit l.rows h.rows) (gone_fit l.is_delta l.gone)

body_deep : (l : Listing) → IsReadable l → levels (list (code "adbs") (members l)) ≤ 32
unfolding members
body_deep l h = omega (arith, rows_deep l.rows h.rows, gone_deep l.is_delta l.gone)

body_short : (l : Listing) → IsReadable l → length (spellings (members l)) ≤ 1073741824
unfolding members
body_short l h =
    omega (
      arith,
      parts_length l.is_delta l.revision l.total (length l.rows) (tags_in l.rows) (gone_tags Items l.is_delta l.gone),
      rows_short l.rows h.rows,
      gone_short l.is_delta l.gone,
      h.few,
      h.few_gone,
    )

body_proper : (l : Listing) → IsReadable l → AreProperTags (members l)
unfolding members
body_proper l h =
    (omega arith, (mark_small l.is_delta, (h.revision, (h.total, (few, (rows_proper l.rows h.rows, gone_proper l.is_delta l.gone h.gone))))))
  where
    few : length l.rows < 2 ^ 32
    few = omega (arith, h.few)

pub body_accepted : (l : Listing) → IsReadable l → is_accepted standard_rows 1073741824 (body_tree Items l) ≡ true
unfolding members tags_in
body_accepted l h =
    and_from (fits standard_rows None (list (code "adbs") (members l))) (nat_le (levels (list (code "adbs") (members l))) 32 && nat_le (length (spellings (members l))) 1073741824) (body_fits l h)
    (and_from (nat_le (levels (list (code "adbs") (members l))) 32) (nat_le (length (spellings (members l))) 1073741824) (le-leb (levels (list (code "adbs") (members l))) 32 (body_deep l h)) (le-leb (length (spellings (members l))) 1073741824 (body_short l h)))

pub body_is_proper : (l : Listing) → IsReadable l → IsProperTag (body_tree Items l)
unfolding members tags_in
body_is_proper l h = body_proper l h

-- ---- the listings of made edits

small_in : (e : Edit) → IsMade e → AreSmall (keys_in e)
small_in e made = subst (λ edit. AreSmall (keys_in edit)) (sym made.is) (by_test (made.b % 4 == 0))
  where
    by_test : (t : Bool) → AreSmall (keys_in (cond t (DropItem made.id) (PutItem (row_by made.id made.b made.c))))
    by_test true = (omega (arith, made.to), tt)
    by_test false = (omega (arith, made.to), tt)

small_append : (xs ys : List ℕ) → AreSmall xs → AreSmall ys → AreSmall (xs ++ ys)
small_append [] ys h k = k
small_append (x ∷ xs) ys h k = (h.0, small_append xs ys h.1 k)

small_keys : (es : List Edit) → AreMade es → AreSmall (named_keys es)
small_keys [] made = tt
small_keys (e ∷ es) made = small_append (keys_in e) (named_keys es) (small_in e made.0) (small_keys es made.1)

full_readable : (bs : List (List Edit)) (look : Look) → look.meta ≡ Default → look.range ≡ whole_range → AreMade (edits bs) → length (edits bs) ≤ 262144 → revision bs < 2 ^ 32
    → IsReadable (full_listing bs Items look)
full_readable bs look meta whole made few v =
    let all : List (ℕ × Row) = rows (edits bs) Items look.query in
    let count : length all ≤ length (edits bs) = length-rows (edits bs) Items look.query in
    let good : AreGood (shown_rows Items look.meta (in_range look.range all)) =
    subst (λ m. AreGood (shown_rows Items m (in_range look.range all))) (sym meta) (subst (λ r. AreGood (shown_rows Items Default (in_range r all))) (sym whole) (rows_good all (rows_made (edits bs) look.query made))) in
    let same : length (shown_rows Items look.meta (in_range look.range all)) ≡ length all =
    length-map (in_range look.range all) (shown Items look.meta) ∙ ap (λ r. length (in_range r all)) whole in
    record { rows = good; gone = tt; few = omega (arith, same, count, few); few_gone = omega arith; revision = v; total = omega (arith, count, few) }

made_front : (es ds : List Edit) → AreMade (es ++ ds) → AreMade es
made_front [] ds made = tt
made_front (e ∷ es) ds made = (made.0, made_front es ds made.1)

delta_readable : (bs : List (List Edit)) (look : Look) (base : ℕ) → look.meta ≡ Default → AreMade (edits bs) → length (edits bs) ≤ 262144 → revision bs < 2 ^ 32
    → IsReadable (delta_listing bs Items look base)
delta_readable bs look base meta made few v =
    let new : ℕ × Tree → Bool = λ tag. not (has_tag (shown_after (up_to bs base) Items look) tag) in
    let p : ℕ × Row → Bool = λ row. new (shown Items look.meta row) in
    let all : List (ℕ × Row) = rows (edits bs) Items look.query in
    let good : AreGood (shown_rows Items look.meta (filter p all)) =
    subst (λ m. AreGood (shown_rows Items m (filter p all))) (sym meta) (rows_good (filter p all) (made_filter p all (rows_made (edits bs) look.query made))) in
    let made_then : AreMade (edits (up_to bs base)) = made_front (edits (up_to bs base)) (later bs base) (subst AreMade (edits-split bs base) made) in
    record {
      rows = subst AreGood (map-filter (shown Items look.meta) new all) good;
      gone = gone_all (λ key. key < 2 ^ 32) bs Items look base (all-ascending (λ key. key < 2 ^ 32) (named_keys (edits (up_to bs base))) (small_keys (edits (up_to bs base)) made_then));
      few = omega (arith, length-delta bs Items look base, few);
      few_gone = omega (arith, few_gone bs Items look base, few);
      revision = v;
      total = omega (arith, length-delta bs Items look base, few);
    }

pub listing_readable : (keep : ℕ) (bs : List (List Edit)) (look : Look) → look.meta ≡ Default → look.range ≡ whole_range → AreMade (edits bs) → length (edits bs) ≤ 262144 → revision bs < 2 ^ 32
    → IsReadable (listing keep bs Items look)
listing_readable keep bs look meta whole made few v = by_kept (is_kept keep bs Items look.base)
  where
    by_kept : (b : Bool) → IsReadable (cond b (delta_listing bs Items look look.base) (full_listing bs Items look))
    by_kept true = delta_readable bs look look.base meta made few v
    by_kept false = full_readable bs look meta whole made few v
