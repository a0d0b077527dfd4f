use Rattle.share_meetings.proofs.Meeting.{walkers_hold_the_share}
use Rattle.share_meetings.proofs.laws.walkers_hold_the_share.Goals as goal

pub returns : goal.returns
returns c = walkers_hold_the_share
