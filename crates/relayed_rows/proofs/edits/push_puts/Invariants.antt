use Rattle.std.proofs.Common.{◌≡◌, ◌++◌, drop, map}
use Rattle.item_model.specs.declared.changes.Edit.TheVariants.{PutItem}
use Rattle.relayed_rows.proofs.edits.push_puts.Given as goal

abbrev pub invariant-loop-row : goal.invariant-loop-row
invariant-loop-row l = l.edits ++ map (λ e. PutItem e.1) (drop l.row-index l.rows) ≡ l.fn.edits ++ map (λ e. PutItem e.1) l.rows
