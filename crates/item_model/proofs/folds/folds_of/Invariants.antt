use Rattle.std.proofs.Common.{◌≡◌, map, take}
use Rattle.item_model.specs.Folding.{folded}
use Rattle.item_model.proofs.folds.folds_of.Given as goal

-- the folded texts so far are those of the texts so far
abbrev pub invariant-loop-text : goal.invariant-loop-text
invariant-loop-text l = l.folds.items ≡ map folded (take l.text-index l.texts)
