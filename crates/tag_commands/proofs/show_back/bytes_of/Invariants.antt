use Rattle.std.proofs.Common.{◌≡◌, ◌++◌, drop}
use Rattle.dmap_tags.specs.Spelling.{spellings}
use Rattle.dmap_tags.specs.Tree.{trees_of}
use Rattle.tag_commands.proofs.show_back.bytes_of.Given as goal

-- the bytes so far and those of the tags that are left are those of all
abbrev pub invariant-loop-tag : goal.invariant-loop-tag
invariant-loop-tag l = l.bytes.items ++ spellings (trees_of (drop l.tag-index l.tags)) ≡ spellings (trees_of l.tags)
