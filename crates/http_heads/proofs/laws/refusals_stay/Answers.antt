use Rattle.http_heads.proofs.Messages.{refusals_stay}
use Rattle.http_heads.proofs.laws.refusals_stay.Goals as goal

pub returns : goal.returns
returns c = refusals_stay
