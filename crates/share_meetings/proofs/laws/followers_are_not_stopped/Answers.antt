use Rattle.share_meetings.proofs.Unstopped.{followers_are_not_stopped}
use Rattle.share_meetings.proofs.laws.followers_are_not_stopped.Goals as goal

pub returns : goal.returns
returns c = followers_are_not_stopped
