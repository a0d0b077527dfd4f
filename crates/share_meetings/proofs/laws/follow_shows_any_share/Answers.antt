use Rattle.share_meetings.proofs.Showing.{follow_shows_any_share}
use Rattle.share_meetings.proofs.laws.follow_shows_any_share.Goals as goal

pub returns : goal.returns
returns c = follow_shows_any_share
