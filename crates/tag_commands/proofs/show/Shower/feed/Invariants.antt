use Rattle.std.proofs.Common.{◌≡◌, ◌++◌, [], ℕ, List, length, None}
use Rattle.dmap_stream.specs.Reader.{ready}
use Rattle.tag_commands.specs.Showing.{HasShown, IsShowing}
use Rattle.tag_commands.proofs.show.Shower.feed.Given as goal

-- the bytes before and then a prefix of the chunk were fed, and no event is left
abbrev pub invariant-loop-rest : goal.invariant-loop-rest
invariant-loop-rest l = record {
  front : List ℕ;
  split : l.piece ≡ front ++ l.rest;
  shown : (fed written : List ℕ) → IsShowing fed written l.initial.self
      → HasShown (fed ++ front) written l.self.counter.reader l.self.counter.tops l.self.lines.items;
  going : l.self.counter.reader.error ≡ None;
  quiet : ready l.self.counter.reader ≡ [];
  bytes : l.self.counter.bytes ≡ l.initial.self.counter.bytes;
}

abbrev pub decreases-loop-rest : goal.decreases-loop-rest
decreases-loop-rest l = length l.rest
