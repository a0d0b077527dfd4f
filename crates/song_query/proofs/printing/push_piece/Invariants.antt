use Rattle.std.proofs.Common.{◌≡◌, ◌++◌, string_bytes}
use Rattle.std.specs.Str.Iter.{chars_rest}
use Rattle.song_query.specs.Printing.{printed_piece}
use Rattle.song_query.proofs.printing.push_piece.Given as goal

-- the text so far and that of the characters left are the text of all
abbrev pub invariant-loop-c : goal.invariant-loop-c
invariant-loop-c l = record {
  next : (goal.iterator-loop-c).can_next l.rest;
  finite : (goal.iterator-loop-c).is_finite l.rest;
  pushed : string_bytes l.out ++ printed_piece (chars_rest l.rest) ≡ string_bytes l.fn.out ++ printed_piece l.piece;
}
