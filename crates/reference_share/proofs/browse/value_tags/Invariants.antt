use Rattle.std.proofs.Common.{◌≡◌, ◌++◌, map}
use Rattle.share_history.specs.BrowseListings.{value_tag}
use Rattle.share_history.specs.RowSeen.{text_at}
use Rattle.reference_share.proofs.browse.value_tags.Given as goal

abbrev pub invariant-loop-text : goal.invariant-loop-text
invariant-loop-text l =
    l.tags ++ map value_tag (map text_at l.text-iterator) ≡ map value_tag (map text_at l.texts.keys)
