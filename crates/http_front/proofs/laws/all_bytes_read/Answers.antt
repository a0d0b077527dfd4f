use Rattle.http_front.proofs.Decided.{every_bytes_read}
use Rattle.http_front.proofs.laws.all_bytes_read.Goals as goal

pub returns : goal.returns
returns c = every_bytes_read
