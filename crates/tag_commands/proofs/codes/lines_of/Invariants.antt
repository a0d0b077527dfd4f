use Rattle.std.proofs.Common.{◌≡◌, flat_map, take}
use Rattle.tag_commands.specs.Codes.{code_line}
use Rattle.tag_commands.proofs.codes.lines_of.Given as goal

-- the lines of the rows so far
abbrev pub invariant-loop-row : goal.invariant-loop-row
invariant-loop-row l = l.lines.items ≡ flat_map code_line (take l.row-index l.row-items)
