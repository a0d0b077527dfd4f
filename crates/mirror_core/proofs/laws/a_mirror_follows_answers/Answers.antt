-- The law is its lemma.
use Rattle.mirror_core.proofs.AfterFacts.{mirrors_follow_answers}
use Rattle.mirror_core.proofs.laws.a_mirror_follows_answers.Goals as goal

pub returns : goal.returns
returns c = mirrors_follow_answers
