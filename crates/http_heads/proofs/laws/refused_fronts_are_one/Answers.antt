use Rattle.http_heads.proofs.Messages.{refused_once}
use Rattle.http_heads.proofs.laws.refused_fronts_are_one.Goals as goal

pub returns : goal.returns
returns c = refused_once
