use Rattle.std.proofs.Common.{◌≡◌, take}
use Rattle.item_model.proofs.changes.copies.Given as goal

-- the copies are a prefix of the edits
abbrev pub invariant-loop-edit : goal.invariant-loop-edit
invariant-loop-edit l = l.copies.items ≡ take l.edit-index l.edits
