use Rattle.std.proofs.Common.{◌≡◌, drop}
use Rattle.dmap_tags.specs.SameTags.{are_same_tags}
use Rattle.item_model.specs.Alike.{shown_trees}
use Rattle.item_model.proofs.alike.have_alike.Given as goal

-- the items have equal values of the properties so far
abbrev pub invariant-loop-property : goal.invariant-loop-property
invariant-loop-property l =
    are_same_tags (shown_trees l.old (drop l.property-index l.properties)) (shown_trees l.new (drop l.property-index l.properties))
    ≡ are_same_tags (shown_trees l.old l.properties) (shown_trees l.new l.properties)
