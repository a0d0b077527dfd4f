use Rattle.song_query.proofs.Printed.{pushed}
use Rattle.song_query.proofs.printing.push_piece.Goals as goal

pub loop-c-preserved : goal.loop-c-preserved
loop-c-preserved c = record {
  next = tt;
  finite = tt;
  pushed = pushed _ _ _ _ _ _ _ c.loop-c.invariant.pushed c.in-Some.ensures.steps.0 c.as_str.ensures c.in_ok-push_char.ensures;
}
