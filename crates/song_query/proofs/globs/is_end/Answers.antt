use Rattle.std.proofs.Common.{sym}
use Rattle.song_query.proofs.Joining.{not_the_end, the_end}
use Rattle.song_query.proofs.globs.is_end.Goals as goal

pub returns-then-text-piece : goal.returns-then-text-piece
returns-then-text-piece c = sym (not_the_end _ _ c.if-text-piece.true)

pub returns : goal.returns
returns c =
    the_end _ _ _ _ c.if-text-piece.false c.split_at.ensures.back (c.eq_ignore_ascii_case.ensures.test.0, c.eq_ignore_ascii_case.ensures.test.1)
