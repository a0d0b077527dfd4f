use Rattle.http_front.proofs.ReadingLaws.{first_asks_stay}
use Rattle.http_front.proofs.laws.first_asks_stay.Goals as goal

pub returns : goal.returns
returns c = first_asks_stay
