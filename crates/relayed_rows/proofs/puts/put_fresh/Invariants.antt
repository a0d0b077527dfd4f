use Rattle.std.proofs.Common.{◌≡◌, fold, take}
use Rattle.share_history.specs.Keyed.{put_in}
use Rattle.relayed_rows.proofs.puts.put_fresh.Given as goal

abbrev pub invariant-loop-id : goal.invariant-loop-id
invariant-loop-id l = l.held.entries ≡ fold put_in l.fn.held.entries (take l.id-index l.rows)
