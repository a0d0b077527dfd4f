use Rattle.share_meetings.proofs.ServedLinks.{ended_links_are_served}
use Rattle.share_meetings.proofs.laws.ended_links_are_served.Goals as goal

pub returns : goal.returns
returns c = ended_links_are_served
