use Rattle.std.proofs.Common.{◌≡◌, map, drop, fold, filter, nat_cmp}
use Rattle.std.specs.Option.{option_copied}
use Rattle.std.specs.Cmp.Lexicographic.{slice_cmp}
use Rattle.std.specs.BTreeSet.{insert_key}
use Rattle.item_model.specs.Items.{value_of}
use Rattle.share_history.specs.Histories.{all_edits}
use Rattle.share_history.specs.BrowseListings.{browsed, text_in, is_filled, browse_values}
use Rattle.reference_share.specs.RowSeen.{row_of}
use Rattle.share_history.specs.RowSeen.{text_at}
use Rattle.reference_share.proofs.browse.browse_values.Given as goal

abbrev pub invariant-loop-row : goal.invariant-loop-row
invariant-loop-row l =
    fold (insert_key (slice_cmp nat_cmp)) (map text_at l.texts.keys) (filter is_filled (map (λ row. text_in (value_of (browsed l.browse) row.1.item)) (map row_of (drop l.row-index l.row-items))))
    ≡ browse_values (all_edits l.history) l.browse (option_copied l.query)
