use Rattle.std.proofs.Common.{◌≡◌, drop}
use Rattle.item_model.specs.Folds.{kept_for}
use Rattle.item_model.proofs.folds.find_fold.Given as goal

-- the folded texts so far are of other properties
abbrev pub invariant-loop-fold : goal.invariant-loop-fold
invariant-loop-fold l = kept_for l.property (drop l.fold-index l.folds) ≡ kept_for l.property l.folds
