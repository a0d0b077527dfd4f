use Rattle.std.proofs.Common.{◌≡◌, drop}
use Rattle.std.specs.Str.Iter.{chars_rest}
use Rattle.song_query.specs.Seen.{state_of}
use Rattle.song_query.proofs.Reached.{Reached}
use Rattle.song_query.proofs.reading.take_all.Given as goal

-- the text is read up to the offset, and the rest is left
abbrev pub invariant-loop-c : goal.invariant-loop-c
invariant-loop-c l = record {
  next : (goal.iterator-loop-c).can_next l.rest;
  finite : (goal.iterator-loop-c).is_finite l.rest;
  left : drop l.place l.text ≡ chars_rest l.rest;
  reached : Reached l.text l.place (state_of l.reader);
}
