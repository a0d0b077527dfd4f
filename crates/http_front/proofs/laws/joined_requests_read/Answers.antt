use Rattle.http_front.proofs.ReadingLaws.{reading_of_joined}
use Rattle.http_front.proofs.laws.joined_requests_read.Goals as goal

pub returns : goal.returns
returns c = reading_of_joined
