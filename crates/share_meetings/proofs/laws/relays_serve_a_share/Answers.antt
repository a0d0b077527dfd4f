use Rattle.share_meetings.proofs.Shares.{relays_serve_a_share}
use Rattle.share_meetings.proofs.laws.relays_serve_a_share.Goals as goal

pub returns : goal.returns
returns c = relays_serve_a_share
