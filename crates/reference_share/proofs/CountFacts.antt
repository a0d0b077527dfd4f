-- How many rows, lists, containers and values were found.
use Rattle.std.proofs.Common.{◌≡◌, ℕ, ◌+◌, map, ◌≤◌, length, nat_cmp, arith, List, [], sym, ap, ◌∙◌, Option, filter, Bor}
use Rattle.std.specs.Cmp.Lexicographic.{slice_cmp}
use Rattle.std.proofs.lemmas.List.{length-map}
use Rattle.dmap_tags.specs.Tree.{Tree}
use Rattle.item_model.specs.declared.item.Row.{Row}
use Rattle.item_model.specs.declared.query.Query.{Query}
use Rattle.item_model.specs.declared.changes.Edit.{Edit}
use Rattle.item_model.specs.declared.request.Browse.{Browse}
use Rattle.item_model.specs.declared.request.Target.{Target}
use Rattle.item_model.specs.declared.request.Target.TheVariants.{Items}
use Rattle.item_model.specs.Items.{value_of}
use Rattle.share_history.specs.LastSaid.{Playlist}
use Rattle.share_history.specs.Rows.{rows, lists}
use Rattle.share_history.specs.Databases.{list_tag, container_tags}
use Rattle.share_history.specs.BrowseListings.{browsed, text_in, is_filled, browse_values, value_tag}
use Rattle.share_history.specs.RowSeen.{text_at}
use Rattle.share_history.proofs.RowFacts.{folded-longer, length-rows, length-lists}
use Rattle.share_history.proofs.RangeFacts.{length-filter}

-- no more rows than edits, of what a loop found, before its keys and items are read
pub few_rows : {A : Type 0} (f : A → ℕ × Row) (found : List A) (es : List Edit) (t : Target) (q : Option Query) → map f found ≡ rows es t q → length found ≤ length es
few_rows f found es t q h = omega (arith, length-map found f, ap length h, length-rows es t q)

pub counted_rows : {A : Type 0} (f : A → ℕ × Row) (found : List A) (es : List Edit) (t : Target) (q : Option Query) → map f found ≡ rows es t q → length found ≡ length (rows es t q)
counted_rows f found es t q h = sym (length-map found f) ∙ ap length h

pub counted_lists : {A : Type 0} (f : A → ℕ × Playlist) (found : List A) (es : List Edit) → map f found ≡ lists es → length found ≡ length (lists es)
counted_lists f found es h = sym (length-map found f) ∙ ap length h

pub few_lists : {A : Type 0} (f : A → ℕ × Playlist) (found : List A) (es : List Edit) → map f found ≡ lists es → length found ≤ length es
few_lists f found es h = omega (arith, counted_lists f found es h, length-lists es)

pub few_containers : (name : List ℕ) (es : List Edit) (tags : List Tree) → tags ≡ container_tags name es → length tags ≤ length es + 1
few_containers name es tags h = omega (arith, ap length h, length-map (lists es) (list_tag es), length-lists es)

few_values : (es : List Edit) (b : Browse) (q : Option Query) → length (browse_values es b q) ≤ length es
few_values es b q =
    let texts : List (List ℕ) = map (λ row. text_in (value_of (browsed b) row.1.item)) (rows es Items q) in
    omega (
      arith,
      folded-longer (slice_cmp nat_cmp) [] (filter is_filled texts),
      length-filter is_filled texts,
      length-map (rows es Items q) (λ row. text_in (value_of (browsed b) row.1.item)),
      length-rows es Items q,
    )

-- no more tags of values than edits
pub few_value_tags : (es : List Edit) (b : Browse) (q : Option Query) (ks : List (Bor (List ℕ))) (tags : List Tree) → map text_at ks ≡ browse_values es b q → tags ≡ map value_tag (map text_at ks) → length tags ≤ length es
few_value_tags es b q ks tags h e = omega (arith, ap length e, length-map (map text_at ks) value_tag, ap length h, few_values es b q)
