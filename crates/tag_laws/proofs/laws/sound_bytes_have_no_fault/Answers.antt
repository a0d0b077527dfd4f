-- The laws are their lemmas.
use Rattle.tag_laws.proofs.Walked.{unbroken, sound}
use Rattle.tag_laws.proofs.laws.sound_bytes_have_no_fault.Goals as goal

pub returns-clause-none : goal.returns-clause-none
returns-clause-none c = unbroken

pub returns-clause-sound : goal.returns-clause-sound
returns-clause-sound c = sound
