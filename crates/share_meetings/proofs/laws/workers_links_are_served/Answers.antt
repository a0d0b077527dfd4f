use Rattle.share_meetings.proofs.ServedLinks.{workers_links_are_served}
use Rattle.share_meetings.proofs.laws.workers_links_are_served.Goals as goal

pub returns : goal.returns
returns c = workers_links_are_served
