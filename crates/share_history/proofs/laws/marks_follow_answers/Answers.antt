-- The law is its lemma.
use Rattle.share_history.proofs.SessionFacts.{marks_follow_answers}
use Rattle.share_history.proofs.laws.marks_follow_answers.Goals as goal

pub returns : goal.returns
returns c = marks_follow_answers
