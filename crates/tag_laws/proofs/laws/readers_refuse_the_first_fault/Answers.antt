-- The laws are their lemmas.
use Rattle.tag_laws.proofs.Walked.{refused, unrefused}
use Rattle.tag_laws.proofs.laws.readers_refuse_the_first_fault.Goals as goal

pub returns-clause-refused : goal.returns-clause-refused
returns-clause-refused c = refused

pub returns-clause-sound : goal.returns-clause-sound
returns-clause-sound c = unrefused
