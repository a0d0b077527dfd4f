use Rattle.std.proofs.Common.{◌≡◌, map, take}
use Rattle.link_commands.proofs.shown.rows_tag.Given as goal

-- the tags of the first rows are in the list
abbrev pub invariant-loop-n : goal.invariant-loop-n
invariant-loop-n l = l.rows ≡ map (λ row. row.1) (take l.n l.mirror.held.rows)
