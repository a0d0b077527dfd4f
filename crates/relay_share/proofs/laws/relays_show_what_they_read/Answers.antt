use Rattle.relay_share.proofs.LeftFacts.{relays_show_what_they_read}
use Rattle.relay_share.proofs.laws.relays_show_what_they_read.Goals as goal

pub returns : goal.returns
returns c = relays_show_what_they_read
