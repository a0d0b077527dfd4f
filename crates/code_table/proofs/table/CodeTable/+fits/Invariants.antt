use Rattle.std.proofs.Common.{◌≡◌, drop}
use Rattle.dmap_tags.specs.Tree.{trees_of, size_of, sizes_of}
use Rattle.code_table.specs.Fits.{all_fit}
use Rattle.code_table.proofs.table.CodeTable.+fits.Given as goal

abbrev pub decreases-fits : goal.decreases-fits
decreases-fits l = size_of l.tag.now

abbrev pub decreases-all_fit : goal.decreases-all_fit
decreases-all_fit l = sizes_of (trees_of l.tags.now)

-- the result for the tags left is the result for all
abbrev pub invariant-all_fit-loop-tag : goal.invariant-all_fit-loop-tag
invariant-all_fit-loop-tag l = all_fit l.self l.parent (trees_of (drop l.tag-index l.tags)) ≡ all_fit l.self l.parent (trees_of l.tags)
