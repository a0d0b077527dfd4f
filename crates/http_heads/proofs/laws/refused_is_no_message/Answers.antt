use Rattle.http_heads.proofs.Messages.{refused_none}
use Rattle.http_heads.proofs.laws.refused_is_no_message.Goals as goal

pub returns : goal.returns
returns c = refused_none
