use Rattle.std.proofs.Common.{sym, ◌∙◌}
use Rattle.song_query.proofs.Joining.{joins_one, joins_more, joins_none}
use Rattle.song_query.proofs.globs.is_joined.Goals as goal

pub returns-then-is_empty : goal.returns-then-is_empty
returns-then-is_empty c =
    joins_one _ _ _ _ c.if-is_empty.ensures (c.eq_ignore_ascii_case.ensures.test.0, c.eq_ignore_ascii_case.ensures.test.1)

pub returns-in-Some : goal.returns-in-Some
returns-in-Some c =
    c.are_behind.ensures ∙ joins_more _ _ _ _ c.if-is_empty.ensures c.in-Some.ensures.0 c.in-Some.ensures.1

pub returns-in-None : goal.returns-in-None
returns-in-None c = sym (joins_none _ _ _ c.if-is_empty.ensures c.in-None.ensures)
