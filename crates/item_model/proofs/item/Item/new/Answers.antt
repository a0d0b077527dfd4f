use Rattle.std.proofs.Common.{refl}
use Rattle.item_model.proofs.KeptFolds.{folds_none}
use Rattle.item_model.proofs.item.Item.new.Goals as goal

pub invariant_of-result : goal.invariant_of-result
invariant_of-result c = rw (c.new.ensures.items, c.new-2.ensures.items) (refl, folds_none, tt)
