use Rattle.std.proofs.Common.{◌≡◌, ◌++◌}
use Rattle.prop_index.proofs.texts.collected.Given as goal

-- the ids so far, and those to come
abbrev pub invariant-loop-id : goal.invariant-loop-id
invariant-loop-id l = l.all.items ++ l.id-iterator ≡ l.ids.keys
