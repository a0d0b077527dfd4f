use Rattle.std.proofs.Common.{◌≡◌, ◌∷◌, map, take}
use Rattle.std.specs.List.{All}
use Rattle.dmap_tags.specs.Codes.{code}
use Rattle.dmap_tags.specs.Tree.{leaf, U32}
use Rattle.code_table.specs.Reply.{entry_of}
use Rattle.code_table.proofs.ReadsBack.{ReadsBack}
use Rattle.code_table.proofs.table.CodeTable.reply.Given as goal

-- the members are the status and the entries of the rows so far, and each entry reads back
abbrev pub invariant-loop-row : goal.invariant-loop-row
invariant-loop-row l =
    (l.members ≡ leaf (code "mstt") (U32 200) ∷ map entry_of (take l.row-index l.rows))
    × All ReadsBack (take l.row-index l.rows)
