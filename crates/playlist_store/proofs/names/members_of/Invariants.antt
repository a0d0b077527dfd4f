use Rattle.std.proofs.Common.{◌≡◌, ◌++◌, drop}
use Rattle.playlist_store.specs.Names.{named_members}
use Rattle.playlist_store.proofs.names.members_of.Given as goal

abbrev pub invariant-loop-edit : goal.invariant-loop-edit
invariant-loop-edit l = l.members.items ++ named_members (drop l.edit-index l.batch) ≡ named_members l.batch
