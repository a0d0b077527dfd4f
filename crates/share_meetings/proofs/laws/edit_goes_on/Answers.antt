use Rattle.share_meetings.proofs.EditGoesOn.{edit_goes_on}
use Rattle.share_meetings.proofs.laws.edit_goes_on.Goals as goal

pub returns : goal.returns
returns c = edit_goes_on
