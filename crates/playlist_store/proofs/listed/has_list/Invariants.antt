use Rattle.std.proofs.Common.{◌≡◌, take, false}
use Rattle.std.specs.List.{list_any}
use Rattle.playlist_store.specs.Reads.{is_of_list}
use Rattle.playlist_store.proofs.listed.has_list.Given as goal

abbrev pub invariant-loop-edit : goal.invariant-loop-edit
invariant-loop-edit l = list_any is_of_list (take l.edit-index l.edits) ≡ false
