use Rattle.std.proofs.Common.{◌≡◌, ◌++◌, take, drop}
use Rattle.dmap_show.specs.TextLines.{before, behind, has}
use Rattle.json_commands.proofs.lines.split_line.Given as goal

-- no line feed so far
abbrev pub invariant-loop-place : goal.invariant-loop-place
invariant-loop-place l = record {
  before : before 10 l.text ≡ take l.place l.text ++ before 10 (drop l.place l.text);
  has : has 10 l.text ≡ has 10 (drop l.place l.text);
  behind : behind 10 l.text ≡ behind 10 (drop l.place l.text);
}
