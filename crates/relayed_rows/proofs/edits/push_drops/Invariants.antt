use Rattle.std.proofs.Common.{◌≡◌, ◌++◌, drop, map}
use Rattle.item_model.specs.declared.changes.Edit.TheVariants.{DropItem}
use Rattle.relayed_rows.proofs.edits.push_drops.Given as goal

abbrev pub invariant-loop-id : goal.invariant-loop-id
invariant-loop-id l = l.edits ++ map (λ id. DropItem id) (drop l.id-index l.ids) ≡ l.fn.edits ++ map (λ id. DropItem id) l.ids
