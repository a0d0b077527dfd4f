use Rattle.std.proofs.Common.{◌≡◌, ◌++◌, drop, string_bytes}
use Rattle.item_model.specs.Names.{more_names}
use Rattle.item_model.proofs.names.print_names.Given as goal

-- the text so far and the names left are the whole text
abbrev pub invariant-loop-property : goal.invariant-loop-property
invariant-loop-property l = string_bytes l.text ++ more_names (drop l.property-index l.others) ≡ string_bytes l.initial.text ++ more_names l.others
