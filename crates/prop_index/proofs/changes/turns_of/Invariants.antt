use Rattle.std.proofs.Common.{ℕ, List, drop}
use Rattle.item_model.specs.declared.item.Row.{Row}
use Rattle.share_history.specs.Keyed.{IsAscending}
use Rattle.prop_index.specs.Library.{FitInTurn, after_all}
use Rattle.prop_index.specs.Turns.{Midway}
use Rattle.prop_index.proofs.changes.turns_of.Given as goal

-- the changes so far were taken in
abbrev pub invariant-loop-change : goal.invariant-loop-change
invariant-loop-change l =
    (rows : List (ℕ × Row)) → IsAscending rows → FitInTurn rows l.changes
    → Midway rows l.turns.entries (drop l.change-index l.changes) (after_all rows l.changes)
