use Rattle.std.proofs.Common.{◌≡◌, [], drop}
use Rattle.dmap_tags.specs.Tree.{trees_of}
use Rattle.code_table.specs.Reply.{rows_from}
use Rattle.code_table.proofs.reply.told_table.Given as goal

-- the rows so far and the members left give the result for all members
abbrev pub invariant-loop-index : goal.invariant-loop-index
invariant-loop-index l = rows_from l.index l.table (trees_of (drop l.index l.members)) ≡ rows_from 0 [] (trees_of l.members)
