use Rattle.std.proofs.Common.{◌≡◌, ◌++◌, List, map, drop}
use Rattle.std.specs.List.{AllByRecursion}
use Rattle.item_model.specs.declared.changes.Edit.{Edit}
use Rattle.item_store.specs.Stands.{StandsFor}
use Rattle.share_history.specs.Histories.{edits}
use Rattle.share_core.specs.Turned.{change_to, IsShortChange}
use Rattle.share_core.proofs.changes.changes_to.Given as goal

abbrev pub invariant-loop-row : goal.invariant-loop-row
invariant-loop-row l = record {
  changes : (bs : List (List Edit)) → StandsFor bs l.items → l.changes.items ++ map (change_to (edits bs)) (drop l.row-index l.before) ≡ map (change_to (edits bs)) l.before;
  short : AllByRecursion IsShortChange l.changes.items;
}
