use Rattle.share_meetings.proofs.ServedRelays.{served_relays_go_on}
use Rattle.share_meetings.proofs.laws.served_relays_go_on.Goals as goal

pub returns : goal.returns
returns c = served_relays_go_on
