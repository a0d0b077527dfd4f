use Rattle.std.proofs.Common.{◌≡◌, drop}
use Rattle.std.specs.List.{list_any}
use Rattle.playlist_store.specs.Changes.{puts_rule}
use Rattle.playlist_store.proofs.names.has_rule_put.Given as goal

abbrev pub invariant-loop-edit : goal.invariant-loop-edit
invariant-loop-edit l = list_any puts_rule (drop l.edit-index l.batch) ≡ list_any puts_rule l.batch
