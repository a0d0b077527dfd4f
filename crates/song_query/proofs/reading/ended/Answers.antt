use Rattle.std.proofs.Common.{sym, arith}
use Rattle.song_query.proofs.Reached.{whole_reached, end_answer, ok_answer}
use Rattle.song_query.proofs.reading.ended.Goals as goal

pub returns-then-not-is_end : goal.returns-then-not-is_end
returns-then-not-is_end c = λ text end ran shallow short.
    end_answer text c.args.end _ (whole_reached text c.args.end _ end ran shallow) (omega arith) (sym c.if-not-is_end.ensures) short

pub returns : goal.returns
returns c = λ text end ran shallow short.
    ok_answer text c.args.end _ _ (whole_reached text c.args.end _ end ran shallow) (omega arith) (sym c.if-not-is_end.ensures) c.in_ok-into_query.ensures short
