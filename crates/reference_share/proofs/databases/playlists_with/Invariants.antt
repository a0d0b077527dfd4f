use Rattle.std.proofs.Common.{◌≡◌, ◌++◌, map}
use Rattle.share_history.specs.Histories.{all_edits}
use Rattle.share_history.specs.Keyed.{pairs_at}
use Rattle.share_history.specs.LastSaid.{list_at}
use Rattle.share_history.specs.Rows.{lists}
use Rattle.reference_share.specs.PlaylistSeen.{listed_of}
use Rattle.reference_share.proofs.databases.playlists_with.Given as goal

abbrev pub invariant-loop-id : goal.invariant-loop-id
invariant-loop-id l =
    map listed_of l.found.items ++ pairs_at (list_at (all_edits l.history ++ l.edits)) l.id-iterator ≡ lists (all_edits l.history ++ l.edits)
