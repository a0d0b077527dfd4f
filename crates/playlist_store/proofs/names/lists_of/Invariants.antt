use Rattle.std.proofs.Common.{◌≡◌, ◌++◌, drop}
use Rattle.share_history.specs.Named.{named_lists}
use Rattle.playlist_store.proofs.names.lists_of.Given as goal

abbrev pub invariant-loop-edit : goal.invariant-loop-edit
invariant-loop-edit l = l.ids.items ++ named_lists (drop l.edit-index l.batch) ≡ named_lists l.batch
