-- The law is its lemma.
use Rattle.share_history.proofs.LawFacts.{bodies_tell_their_rows}
use Rattle.share_history.proofs.laws.a_body_tells_its_rows.Goals as goal

pub returns : goal.returns
returns c = bodies_tell_their_rows
