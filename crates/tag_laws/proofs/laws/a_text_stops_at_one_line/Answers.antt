-- The laws are their lemmas.
use Rattle.tag_laws.proofs.Lines.{one_line, one_cause}
use Rattle.tag_laws.proofs.laws.a_text_stops_at_one_line.Goals as goal

pub returns-clause-line : goal.returns-clause-line
returns-clause-line c = one_line

pub returns-clause-cause : goal.returns-clause-cause
returns-clause-cause c = one_cause
