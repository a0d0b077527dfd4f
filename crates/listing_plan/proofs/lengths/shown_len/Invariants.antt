use Rattle.std.proofs.Common.{◌≡◌, ◌≤◌, ◌+◌, length, drop}
use Rattle.dmap_tags.specs.Spelling.{spellings}
use Rattle.dmap_tags.specs.Tree.{trees_of}
use Rattle.item_model.specs.Projection.{shown}
use Rattle.listing_plan.specs.Lengths.{tags_most}
use Rattle.listing_plan.proofs.lengths.shown_len.Given as goal

-- what was passed is counted, and what is left completes it
abbrev pub invariant-loop-property : goal.invariant-loop-property
invariant-loop-property l = record {
  counted : l.len + length (spellings (trees_of (shown l.item (drop l.property-index l.properties)))) ≡ length (spellings (trees_of (shown l.item l.properties)));
  short : l.len + tags_most (drop l.property-index l.properties) ≤ tags_most l.properties;
}
