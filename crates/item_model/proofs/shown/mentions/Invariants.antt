use Rattle.std.proofs.Common.{◌≡◌, drop}
use Rattle.item_model.specs.Projection.{mentions}
use Rattle.item_model.proofs.shown.mentions.Given as goal

-- the properties so far are other ones
abbrev pub invariant-loop-p : goal.invariant-loop-p
invariant-loop-p l = mentions (drop l.p-index l.properties) l.property ≡ mentions l.properties l.property
