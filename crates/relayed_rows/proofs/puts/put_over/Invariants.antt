use Rattle.std.proofs.Common.{◌≡◌, fold}
use Rattle.std.specs.Vec.Iter.{into_iter_items}
use Rattle.share_history.specs.Keyed.{put_in}
use Rattle.relayed_rows.specs.Held.{AreHeld}
use Rattle.relayed_rows.proofs.puts.put_over.Given as goal

abbrev pub invariant-loop-id : goal.invariant-loop-id
invariant-loop-id l = record {
  put : fold put_in l.held.entries (into_iter_items l.id-iterator) ≡ fold put_in l.fn.held.entries l.fn.rows.items;
  held : AreHeld l.held.entries (into_iter_items l.id-iterator);
}
