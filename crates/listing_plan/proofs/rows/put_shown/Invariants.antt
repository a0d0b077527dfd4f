use Rattle.std.proofs.Common.{◌≡◌, ◌++◌, drop}
use Rattle.dmap_tags.specs.Spelling.{spellings}
use Rattle.dmap_tags.specs.Tree.{trees_of}
use Rattle.item_model.specs.Projection.{shown}
use Rattle.listing_plan.proofs.rows.put_shown.Given as goal

-- what was put and what is left are all that is shown
abbrev pub invariant-loop-property : goal.invariant-loop-property
invariant-loop-property g l =
    l.page ++ spellings (trees_of (shown l.item (drop l.property-index l.properties))) ≡ l.initial.page ++ spellings (trees_of (shown l.item l.properties))
