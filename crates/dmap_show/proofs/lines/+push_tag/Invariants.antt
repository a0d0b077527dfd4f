use Rattle.std.proofs.Common.{true, ◌≡◌, ◌++◌, drop}
use Rattle.std.specs.Str.{is_utf8}
use Rattle.dmap_tags.specs.Tree.{trees_of, size_of, sizes_of}
use Rattle.dmap_tags.specs.Begins.{Begins}
use Rattle.dmap_tags.specs.Seen.{tree_with}
use Rattle.dmap_show.specs.Readable.{AreTags}
use Rattle.dmap_show.specs.Shown.{shown_tags}
use Rattle.dmap_show.proofs.lines.+push_tag.Given as goal

abbrev pub decreases-push_tag : goal.decreases-push_tag
decreases-push_tag l = size_of (tree_with l.code l.value.now)

abbrev pub decreases-push_tags : goal.decreases-push_tags
decreases-push_tags l = sizes_of (trees_of l.tags.now)

-- what was added and the lines of the tags that are left are the lines of all
abbrev pub invariant-push_tags-loop-tag : goal.invariant-push_tags-loop-tag
invariant-push_tags-loop-tag l = record {
  shown : l.out.items ++ shown_tags l.level (trees_of (drop l.tag-index l.tags)) ≡ l.fn.out.items ++ shown_tags l.level (trees_of l.tags);
  text : is_utf8 l.fn.out.items ≡ true → is_utf8 l.out.items ≡ true;
  held : AreTags (trees_of (drop l.tag-index l.tags)) → AreTags (trees_of l.tags);
  kept : Begins l.fn.out.items l.out.items;
}
