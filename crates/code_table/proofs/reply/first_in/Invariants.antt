use Rattle.std.proofs.Common.{◌≡◌, drop}
use Rattle.dmap_tags.specs.Tree.{trees_of}
use Rattle.code_table.specs.Reply.{first_in}
use Rattle.code_table.proofs.reply.first_in.Given as goal

-- the result for the tags left is the result for all
abbrev pub invariant-loop-tag : goal.invariant-loop-tag
invariant-loop-tag l = first_in l.code (trees_of (drop l.tag-index l.tags)) ≡ first_in l.code (trees_of l.tags)
