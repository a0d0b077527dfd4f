use Rattle.http_front.proofs.ReadingLaws.{refusal_stays}
use Rattle.http_front.proofs.laws.refusals_stay.Goals as goal

pub returns : goal.returns
returns c = refusal_stays
