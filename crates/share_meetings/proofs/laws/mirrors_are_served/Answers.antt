use Rattle.share_meetings.proofs.FirstRound.{mirrors_are_served}
use Rattle.share_meetings.proofs.laws.mirrors_are_served.Goals as goal

pub returns : goal.returns
returns c = mirrors_are_served
