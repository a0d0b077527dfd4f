-- The law is its lemma.
use Rattle.edit_meetings.proofs.MetEdits.{edit_meets_the_share}
use Rattle.edit_meetings.proofs.laws.edits_meet_the_share.Goals as goal

pub returns : goal.returns
returns c = edit_meets_the_share
