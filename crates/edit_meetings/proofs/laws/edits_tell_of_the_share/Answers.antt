-- The law is its lemma.
use Rattle.edit_meetings.proofs.MetEdits.{edit_tells_of_the_share}
use Rattle.edit_meetings.proofs.laws.edits_tell_of_the_share.Goals as goal

pub returns : goal.returns
returns c = edit_tells_of_the_share
