-- The laws are their lemmas.
use Rattle.tag_laws.proofs.Walked.{told, found}
use Rattle.tag_laws.proofs.laws.bytes_break_at_the_first_fault.Goals as goal

pub returns-clause-told : goal.returns-clause-told
returns-clause-told c = told

pub returns-clause-found : goal.returns-clause-found
returns-clause-found c = found
