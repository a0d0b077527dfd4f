-- The law is its lemma.
use Rattle.mirror_core.proofs.AfterFacts.{full_bodies_suffice}
use Rattle.mirror_core.proofs.laws.a_full_body_suffices.Goals as goal

pub returns : goal.returns
returns c = full_bodies_suffice
