use Rattle.std.proofs.Common.{◌≡◌, take, fold}
use Rattle.playlist_store.specs.Reads.{with_list}
use Rattle.playlist_store.proofs.listed.take_in.Given as goal

abbrev pub invariant-loop-edit : goal.invariant-loop-edit
invariant-loop-edit l = l.ids.keys ≡ fold with_list l.fn.ids.keys (take l.edit-index l.edits)
