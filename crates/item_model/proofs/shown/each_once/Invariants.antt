use Rattle.std.proofs.Common.{◌≡◌, take}
use Rattle.item_model.specs.Projection.{first_mentions}
use Rattle.item_model.proofs.shown.each_once.Given as goal

-- the properties so far are shown, each once
abbrev pub invariant-loop-property : goal.invariant-loop-property
invariant-loop-property l = l.shown ≡ first_mentions (take l.property-index l.properties)
