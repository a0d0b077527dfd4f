-- The law is its lemma.
use Rattle.edit_meetings.proofs.AllOrNothing.{edits_are_all_or_nothing}
use Rattle.edit_meetings.proofs.laws.edits_are_all_or_nothing.Goals as goal

pub returns : goal.returns
returns c = edits_are_all_or_nothing
