use Rattle.std.proofs.Common.{◌≡◌, ◌+◌, ◌==◌, filter, length, take}
use Rattle.tag_commands.proofs.show_back.line_at.Given as goal

-- one more than the line feeds so far
abbrev pub invariant-loop-byte : goal.invariant-loop-byte
invariant-loop-byte l = l.line ≡ 1 + length (filter (λ byte. byte == 10) (take l.byte-index l.front))
