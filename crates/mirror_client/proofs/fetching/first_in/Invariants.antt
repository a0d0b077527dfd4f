use Rattle.std.proofs.Common.{◌≡◌, drop}
use Rattle.dmap_tags.specs.Tree.{trees_of}
use Rattle.code_table.specs.Reply.{first_in}
use Rattle.mirror_client.proofs.fetching.first_in.Given as goal

-- the tags that are left have the same result as all of them
abbrev pub invariant-loop-tag : goal.invariant-loop-tag
invariant-loop-tag l = first_in l.code (trees_of (drop l.tag-index l.tags)) ≡ first_in l.code (trees_of l.tags)
