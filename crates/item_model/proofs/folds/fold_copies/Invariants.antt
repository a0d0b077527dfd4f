use Rattle.std.proofs.Common.{◌≡◌, take}
use Rattle.item_model.proofs.folds.fold_copies.Given as goal

-- the copies are a prefix of the folded texts
abbrev pub invariant-loop-fold : goal.invariant-loop-fold
invariant-loop-fold l = l.copies.items ≡ take l.fold-index l.folds
