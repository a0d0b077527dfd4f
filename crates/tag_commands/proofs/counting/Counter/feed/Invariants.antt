use Rattle.std.proofs.Common.{◌≡◌, ◌+◌, ◌*◌, ◌++◌, ℕ, List, length, if◌then◌else◌}
use Rattle.dmap_stream.specs.Reader.{ready}
use Rattle.dmap_stream.specs.Walk.{is_empty}
use Rattle.tag_commands.specs.Counting.{HasCounted, IsCounted}
use Rattle.tag_commands.proofs.counting.Counter.feed.Given as goal

-- the bytes before and then a prefix of the chunk were fed
abbrev pub invariant-loop-rest : goal.invariant-loop-rest
invariant-loop-rest l = record {
  front : List ℕ;
  split : l.piece ≡ front ++ l.rest;
  counted : (fed : List ℕ) → IsCounted fed l.initial.self → HasCounted (fed ++ front) l.self.reader l.self.tops;
  bytes : l.self.bytes ≡ l.initial.self.bytes;
}

-- a step that takes no byte leaves nothing ready
abbrev pub decreases-loop-rest : goal.decreases-loop-rest
decreases-loop-rest l = 2 * length l.rest + (if is_empty (ready l.self.reader) then 0 else 1)
