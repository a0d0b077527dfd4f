use Rattle.std.proofs.Common.{◌≡◌, fold, drop}
use Rattle.share_history.specs.Keyed.{taken_out}
use Rattle.relayed_rows.proofs.puts.take_out.Given as goal

abbrev pub invariant-loop-id : goal.invariant-loop-id
invariant-loop-id l = fold taken_out l.held.entries (drop l.id-index l.ids) ≡ fold taken_out l.fn.held.entries l.ids
