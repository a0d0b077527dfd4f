use Rattle.http_front.proofs.ReadingLaws.{one_reading}
use Rattle.http_front.proofs.laws.readings_are_one.Goals as goal

pub returns : goal.returns
returns c = one_reading
