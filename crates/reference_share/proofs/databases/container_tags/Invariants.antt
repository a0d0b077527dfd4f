use Rattle.std.proofs.Common.{◌≡◌, ◌++◌, map, drop}
use Rattle.share_history.specs.Histories.{all_edits}
use Rattle.share_history.specs.Databases.{list_tag, container_tags}
use Rattle.reference_share.specs.PlaylistSeen.{listed_of}
use Rattle.reference_share.proofs.databases.container_tags.Given as goal

abbrev pub invariant-loop-list : goal.invariant-loop-list
invariant-loop-list l =
    l.tags ++ map (list_tag (all_edits l.history)) (map listed_of (drop l.list-index l.list-items)) ≡ container_tags l.name (all_edits l.history)
