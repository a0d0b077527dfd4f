use Rattle.std.proofs.Common.{◌≡◌, drop}
use Rattle.std.specs.Prelude.{nat_le}
use Rattle.dmap_tags.specs.Tree.{trees_of, size_of, sizes_of, levels_in}
use Rattle.dmap_json.proofs.writing.+levels.Given as goal

abbrev pub decreases-has_levels : goal.decreases-has_levels
decreases-has_levels l = size_of l.tag.now

abbrev pub decreases-all_have_levels : goal.decreases-all_have_levels
decreases-all_have_levels l = sizes_of (trees_of l.tags.now)

-- the result for the tags left is the result for all
abbrev pub invariant-all_have_levels-loop-tag : goal.invariant-all_have_levels-loop-tag
invariant-all_have_levels-loop-tag l = nat_le (levels_in (trees_of (drop l.tag-index l.tags))) l.most ≡ nat_le (levels_in (trees_of l.tags)) l.most
