use Rattle.share_meetings.proofs.Shares.{runs_serve_a_share}
use Rattle.share_meetings.proofs.laws.runs_serve_a_share.Goals as goal

pub returns : goal.returns
returns c = runs_serve_a_share
