use Rattle.std.proofs.Common.{◌≡◌, ◌++◌, map, drop}
use Rattle.share_history.specs.BrowseListings.{value_tag}
use Rattle.share_core.proofs.browse.text_tags.Given as goal

abbrev pub invariant-loop-text : goal.invariant-loop-text
invariant-loop-text l = l.tags ++ map value_tag (drop l.text-index l.texts) ≡ map value_tag l.texts
