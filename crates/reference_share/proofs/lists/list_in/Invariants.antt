use Rattle.std.proofs.Common.{◌≡◌, unwrap_or, drop}
use Rattle.std.specs.Option.{option_map}
use Rattle.share_history.specs.LastSaid.{last_said, says_list}
use Rattle.reference_share.specs.PlaylistSeen.{playlist_of}
use Rattle.reference_share.proofs.lists.list_in.Given as goal

abbrev pub invariant-loop-edit : goal.invariant-loop-edit
invariant-loop-edit l =
    unwrap_or (last_said (says_list l.id) (drop l.edit-index l.edits)) (option_map playlist_of l.found)
    ≡ unwrap_or (last_said (says_list l.id) l.edits) (option_map playlist_of l.initial.found)
