use Rattle.std.proofs.Common.{refl}
use Rattle.std.specs.Fmt.{digits}
use Rattle.http_front.specs.ReplyHeads.{reply_head_text}
use Rattle.http_front.proofs.reply_heads.failure.Goals as goal

pub returns : goal.returns
unfolding reply_head_text digits
returns c = refl
