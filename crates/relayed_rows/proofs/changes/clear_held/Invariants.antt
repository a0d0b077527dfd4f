use Rattle.std.proofs.Common.{◌≡◌, fold}
use Rattle.std.specs.Map.{keys_of}
use Rattle.relayed_rows.specs.Changes.{with_gone}
use Rattle.relayed_rows.proofs.changes.clear_held.Given as goal

abbrev pub invariant-loop-id : goal.invariant-loop-id
invariant-loop-id l = fold with_gone l.changes.entries (keys_of l.id-iterator) ≡ fold with_gone l.fn.changes.entries (keys_of l.held.entries)
