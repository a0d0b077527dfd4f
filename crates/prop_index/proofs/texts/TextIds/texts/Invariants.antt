use Rattle.std.proofs.Common.{◌≡◌, ◌++◌, map, string_bytes}
use Rattle.std.specs.BTreeMap.{keys}
use Rattle.prop_index.proofs.texts.TextIds.texts.Given as goal

-- the texts so far, and those to come
abbrev pub invariant-loop-text : goal.invariant-loop-text
invariant-loop-text l = l.texts ++ map string_bytes l.text-iterator ≡ map string_bytes (keys l.self.ids)
