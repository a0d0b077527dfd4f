use Rattle.std.proofs.Common.{◌≡◌, unwrap_or, drop}
use Rattle.std.specs.Option.{option_map}
use Rattle.share_history.specs.Histories.{all_edits}
use Rattle.share_history.specs.LastSaid.{last_said, says_list, list_at}
use Rattle.reference_share.specs.PlaylistSeen.{playlist_of}
use Rattle.reference_share.proofs.lists.list.Given as goal

abbrev pub invariant-loop-entry : goal.invariant-loop-entry
invariant-loop-entry l =
    unwrap_or (last_said (says_list l.id) (all_edits (drop l.entry-index l.history))) (option_map playlist_of l.found) ≡ list_at (all_edits l.history) l.id
