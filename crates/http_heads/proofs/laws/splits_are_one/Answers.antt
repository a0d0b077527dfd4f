use Rattle.http_heads.proofs.Messages.{splits_once}
use Rattle.http_heads.proofs.laws.splits_are_one.Goals as goal

pub returns : goal.returns
returns c = splits_once
