use Rattle.std.proofs.Common.{◌≡◌, List, ℕ, length}
use Rattle.dmap_stream.specs.Reader.{ready}
use Rattle.json_commands.specs.Fed.{HasFed}
use Rattle.json_commands.proofs.json.skip_events.Given as goal

abbrev pub invariant-loop : goal.invariant-loop
invariant-loop l = record {
  same : (l.reader.rows ≡ l.initial.reader.rows) × ((l.reader.limit ≡ l.initial.reader.limit) × (l.reader.error ≡ l.initial.reader.error));
  read : (fed : List ℕ) → HasFed fed l.initial.reader → HasFed fed l.reader;
}

abbrev pub decreases-loop : goal.decreases-loop
decreases-loop l = length (ready l.reader)
