use Rattle.std.proofs.Common.{◌≡◌, drop}
use Rattle.item_model.specs.Items.{value_of}
use Rattle.item_model.proofs.item.find_value.Given as goal

-- the entries so far are of other properties
abbrev pub invariant-loop-entry : goal.invariant-loop-entry
invariant-loop-entry l = value_of l.property (drop l.entry-index l.entries) ≡ value_of l.property l.entries
