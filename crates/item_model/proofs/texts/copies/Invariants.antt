use Rattle.std.proofs.Common.{◌≡◌, take}
use Rattle.item_model.proofs.texts.copies.Given as goal

-- the copies are a prefix of the texts
abbrev pub invariant-loop-text : goal.invariant-loop-text
invariant-loop-text l = l.copies.items ≡ take l.text-index l.texts
