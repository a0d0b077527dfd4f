use Rattle.std.proofs.Common.{inr, length, zero-le}
use Rattle.http_heads.specs.declared.kind.Kind.TheVariants.{Request}
use Rattle.http_heads.proofs.Messages.{not_told}
use Rattle.http_front.proofs.asks.read_ask.Goals as goal

-- a head that states a length is read
pub returns-in_err-head : goal.returns-in_err-head
returns-in_err-head c =
    absurd (not_told Request c.args.head.now 0 (length c.args.body.now) c.in_err-head.field-0.0 (zero-le, c.requires.head) (inr (zero-le, c.in_err-head.ensures)))
