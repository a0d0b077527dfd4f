use Rattle.std.proofs.Common.{◌≡◌, ◌++◌, filter, is_some}
use Rattle.std.specs.Map.{keys_of}
use Rattle.key_versions.proofs.walks.keys.Given as goal

abbrev pub invariant-loop-key : goal.invariant-loop-key
invariant-loop-key g l = l.keys.items ++ keys_of (filter (λ e. is_some e.1.value) l.key-iterator) ≡ keys_of (filter (λ e. is_some e.1.value) l.newest.entries)
