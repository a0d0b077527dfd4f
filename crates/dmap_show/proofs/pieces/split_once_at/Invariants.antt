use Rattle.std.proofs.Common.{◌≡◌, ◌++◌, take, drop}
use Rattle.dmap_show.specs.TextLines.{before, behind, has}
use Rattle.dmap_show.proofs.pieces.split_once_at.Given as goal

-- no mark so far
abbrev pub invariant-loop-place : goal.invariant-loop-place
invariant-loop-place l = record {
  before : before l.mark l.bytes ≡ take l.place l.bytes ++ before l.mark (drop l.place l.bytes);
  has : has l.mark l.bytes ≡ has l.mark (drop l.place l.bytes);
  behind : behind l.mark l.bytes ≡ behind l.mark (drop l.place l.bytes);
}
