use Rattle.std.proofs.Common.{◌≡◌, ◌++◌, List, map}
use Rattle.item_model.specs.declared.changes.Edit.{Edit}
use Rattle.item_store.specs.Stands.{StandsFor}
use Rattle.share_history.specs.Histories.{edits}
use Rattle.share_history.specs.LastSaid.{item_at}
use Rattle.share_core.proofs.changes.rows_of.Given as goal

abbrev pub invariant-loop-id : goal.invariant-loop-id
invariant-loop-id l =
    (bs : List (List Edit)) → StandsFor bs l.items → l.rows.items ++ map (λ id. (id, item_at (edits bs) id)) l.id-iterator ≡ map (λ id. (id, item_at (edits bs) id)) l.ids.keys
