use Rattle.std.proofs.Common.{◌≡◌, ◌++◌, List, drop}
use Rattle.std.specs.Prelude.{filter_map}
use Rattle.item_model.specs.declared.changes.Entry.{Entry}
use Rattle.share_history.specs.Databases.{container_tags}
use Rattle.share_history.specs.Histories.{all_edits}
use Rattle.share_core.specs.Entries.{entry_at}
use Rattle.share_core.specs.Held.{AreHeld}
use Rattle.share_core.proofs.containers.entries.Given as goal

abbrev pub invariant-loop-id : goal.invariant-loop-id
invariant-loop-id l =
    (h : List Entry) → AreHeld h l.stores → l.tags ++ filter_map (entry_at (all_edits h)) (drop l.id-index l.id-items) ≡ container_tags l.name (all_edits h)
