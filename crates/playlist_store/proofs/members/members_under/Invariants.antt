use Rattle.std.proofs.Common.{◌≡◌, ◌++◌, List, map, drop}
use Rattle.std.specs.Option.{option_and_then}
use Rattle.item_model.specs.declared.changes.Edit.{Edit}
use Rattle.item_store.specs.Stands.{StandsFor}
use Rattle.key_versions.specs.Found.{newest_value}
use Rattle.key_versions.specs.Held.{versions_at}
use Rattle.share_history.specs.Histories.{edits}
use Rattle.share_history.specs.Keyed.{pairs_at}
use Rattle.playlist_store.specs.Words.{pair_of}
use Rattle.playlist_store.specs.Reads.{there}
use Rattle.playlist_store.proofs.members.members_under.Given as goal

abbrev pub invariant-loop-key : goal.invariant-loop-key
invariant-loop-key l =
    (bs : List (List Edit)) → StandsFor bs l.items
    → map pair_of l.found.items ++ pairs_at (λ key. option_and_then (there (edits bs)) (newest_value (versions_at key l.members))) (drop l.key-index l.keys)
    ≡ pairs_at (λ key. option_and_then (there (edits bs)) (newest_value (versions_at key l.members))) l.keys
