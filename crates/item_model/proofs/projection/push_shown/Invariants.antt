use Rattle.std.proofs.Common.{◌≡◌, ◌++◌, take}
use Rattle.item_model.specs.Projection.{shown}
use Rattle.item_model.proofs.projection.push_shown.Given as goal

-- the tags are those of the properties so far
abbrev pub invariant-loop-property : goal.invariant-loop-property
invariant-loop-property l = l.tags ≡ l.initial.tags ++ shown l.item (take l.property-index l.properties)
