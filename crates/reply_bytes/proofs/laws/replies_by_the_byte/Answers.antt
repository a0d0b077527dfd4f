-- By computing.
use Rattle.std.proofs.Common.{refl}
use Rattle.std.specs.Fmt.{digits}
use Rattle.http_front.specs.ReplyHeads.{reply_head_text}
use Rattle.reply_bytes.proofs.laws.replies_by_the_byte.Goals as goal

pub returns : goal.returns
unfolding reply_head_text digits
returns c = (refl, refl, refl)
