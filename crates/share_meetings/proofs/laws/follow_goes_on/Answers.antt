use Rattle.share_meetings.proofs.FollowGoesOn.{follow_goes_on}
use Rattle.share_meetings.proofs.laws.follow_goes_on.Goals as goal

pub returns : goal.returns
returns c = follow_goes_on
