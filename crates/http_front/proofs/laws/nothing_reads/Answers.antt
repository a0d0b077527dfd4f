use Rattle.http_front.proofs.ReadingLaws.{nothing_read}
use Rattle.http_front.proofs.laws.nothing_reads.Goals as goal

pub returns : goal.returns
returns c = nothing_read
