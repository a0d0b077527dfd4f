use Rattle.std.proofs.Common.{◌≡◌, ◌+◌, [], length, option_copied}
use Rattle.std.specs.Option.{option_map_or}
use Rattle.item_model.specs.Names.{parts, parts_behind, with_names}
use Rattle.item_model.proofs.names.read_names.Given as goal

-- the properties so far and those of the names left are those of all names
abbrev pub invariant-loop-rest : goal.invariant-loop-rest
invariant-loop-rest l = with_names l.properties (parts_behind (option_copied l.rest)) ≡ with_names [] (parts l.text)

abbrev pub decreases-loop-rest : goal.decreases-loop-rest
decreases-loop-rest l = option_map_or (λ rest. length rest.now + 1) l.rest 0
