use Rattle.std.proofs.Common.{◌≡◌, ◌++◌, take, drop}
use Rattle.share_replay.specs.Lines.{before, behind}
use Rattle.share_replay.proofs.line.split_once_at.Given as goal

-- none so far
abbrev pub invariant-loop-place : goal.invariant-loop-place
invariant-loop-place l = record {
  before : before l.mark l.bytes ≡ take l.place l.bytes ++ before l.mark (drop l.place l.bytes);
  behind : behind l.mark l.bytes ≡ behind l.mark (drop l.place l.bytes);
}
