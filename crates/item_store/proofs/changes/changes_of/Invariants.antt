use Rattle.std.proofs.Common.{◌≡◌, ℕ, take}
use Rattle.share_history.specs.Keyed.{at}
use Rattle.share_history.specs.LastSaid.{last_said, says_item}
use Rattle.item_store.proofs.changes.changes_of.Given as goal

abbrev pub invariant-loop-edit : goal.invariant-loop-edit
invariant-loop-edit l = (id : ℕ) → at id l.changes.entries ≡ last_said (says_item id) (take l.edit-index l.edits)
