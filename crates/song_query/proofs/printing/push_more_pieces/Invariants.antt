use Rattle.std.proofs.Common.{◌≡◌, ◌++◌, drop, string_bytes}
use Rattle.song_query.specs.Printing.{printed_more}
use Rattle.song_query.proofs.printing.push_more_pieces.Given as goal

-- the text so far and that of the parts left are the text of all
abbrev pub invariant-loop-piece : goal.invariant-loop-piece
invariant-loop-piece l =
    string_bytes l.out ++ printed_more (drop l.piece-index l.pieces) ≡ string_bytes l.fn.out ++ printed_more l.pieces
