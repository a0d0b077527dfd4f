use Rattle.std.proofs.Common.{◌≡◌, ◌++◌, drop}
use Rattle.item_store.specs.Stands.{named_items}
use Rattle.playlist_store.proofs.names.items_of.Given as goal

abbrev pub invariant-loop-edit : goal.invariant-loop-edit
invariant-loop-edit l = l.ids.items ++ named_items (drop l.edit-index l.batch) ≡ named_items l.batch
