use Rattle.std.proofs.Common.{◌≡◌, ◌≤◌, ◌+◌, List, map, filter, fold, drop, nat_cmp}
use Rattle.std.specs.Cmp.Lexicographic.{slice_cmp}
use Rattle.std.specs.BTreeSet.{insert_key}
use Rattle.item_model.specs.declared.changes.Edit.{Edit}
use Rattle.item_store.specs.Stands.{StandsFor}
use Rattle.share_history.specs.BrowseListings.{is_filled, sorted_texts}
use Rattle.share_history.specs.Histories.{edits}
use Rattle.share_history.specs.RowSeen.{text_at}
use Rattle.share_core.specs.ValuesAt.{values_at}
use Rattle.share_core.proofs.browse.asked_texts.Given as goal

-- with the texts of the ids to come, the texts of all are there
abbrev pub invariant-loop-id : goal.invariant-loop-id
invariant-loop-id g l = record {
  texts : (bs : List (List Edit)) → StandsFor bs l.items
      → fold (insert_key (slice_cmp nat_cmp)) (map text_at l.texts.keys) (filter is_filled (values_at (edits bs) l.by l.query (drop l.id-index l.ids)))
      ≡ sorted_texts (filter is_filled (values_at (edits bs) l.by l.query l.ids));
  cost : l.steps ≤ l.initial.steps + l.id-index;
}
