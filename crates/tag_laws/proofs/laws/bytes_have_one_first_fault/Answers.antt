-- The laws are their lemmas.
use Rattle.tag_laws.proofs.Ways.{one_first_fault, place_once, one_fault}
use Rattle.tag_laws.proofs.laws.bytes_have_one_first_fault.Goals as goal

pub returns-clause-fault : goal.returns-clause-fault
returns-clause-fault c = one_first_fault

pub returns-clause-place : goal.returns-clause-place
returns-clause-place c = place_once

pub returns-clause-one : goal.returns-clause-one
returns-clause-one c = one_fault
