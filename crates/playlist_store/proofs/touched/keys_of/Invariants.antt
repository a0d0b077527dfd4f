use Rattle.std.proofs.Common.{◌≡◌, ◌++◌}
use Rattle.playlist_store.proofs.touched.keys_of.Given as goal

abbrev pub invariant-loop-key : goal.invariant-loop-key
invariant-loop-key l = l.keys.items ++ l.key-iterator ≡ l.set.keys
