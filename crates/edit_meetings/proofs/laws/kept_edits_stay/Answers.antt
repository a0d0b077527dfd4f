-- The law is its lemma.
use Rattle.edit_meetings.proofs.KeptEdits.{kept_edits_stay}
use Rattle.edit_meetings.proofs.laws.kept_edits_stay.Goals as goal

pub returns : goal.returns
returns c = kept_edits_stay
