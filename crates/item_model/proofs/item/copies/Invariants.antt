use Rattle.std.proofs.Common.{◌≡◌, take}
use Rattle.item_model.proofs.item.copies.Given as goal

-- the copies are a prefix of the entries
abbrev pub invariant-loop-entry : goal.invariant-loop-entry
invariant-loop-entry l = l.copies.items ≡ take l.entry-index l.entries
