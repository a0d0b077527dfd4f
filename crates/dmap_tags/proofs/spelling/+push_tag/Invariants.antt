use Rattle.std.proofs.Common.{◌≡◌, ◌++◌, ◌+◌, ◌*◌, drop}
use Rattle.dmap_tags.specs.Tree.{trees_of, size_of, sizes_of}
use Rattle.dmap_tags.specs.Spelling.{spellings}
use Rattle.dmap_tags.specs.Begins.{Begins}
use Rattle.dmap_tags.proofs.spelling.+push_tag.Given as goal

-- recursion descends from a tag to its payload, and from there to the tags in it
abbrev pub decreases-push_tag : goal.decreases-push_tag
decreases-push_tag l = 2 * size_of l.tag.now + 1

abbrev pub decreases-push_payload : goal.decreases-push_payload
decreases-push_payload l = 2 * size_of l.tag.now

abbrev pub decreases-push_tags : goal.decreases-push_tags
decreases-push_tags l = 2 * sizes_of (trees_of l.tags.now)

-- the bytes pushed so far and the encodings of the members left are the encodings of all
abbrev pub invariant-push_tags-loop-tag : goal.invariant-push_tags-loop-tag
invariant-push_tags-loop-tag l = record {
  pushed : l.out.items ++ spellings (trees_of (drop l.tag-index l.tags)) ≡ l.fn.out.items ++ spellings (trees_of l.tags);
  kept : Begins l.fn.out.items l.out.items;
}
