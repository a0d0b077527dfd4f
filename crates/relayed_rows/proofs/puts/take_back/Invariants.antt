use Rattle.std.proofs.Common.{◌≡◌, fold, drop}
use Rattle.std.specs.Map.{keys_of}
use Rattle.share_history.specs.Keyed.{taken_out}
use Rattle.relayed_rows.proofs.puts.take_back.Given as goal

abbrev pub invariant-loop-id : goal.invariant-loop-id
invariant-loop-id l = fold taken_out l.held.entries (keys_of (drop l.id-index l.rows)) ≡ fold taken_out l.fn.held.entries (keys_of l.rows)
