use Rattle.std.proofs.Common.{rules, sym, ap, ◌∙◌, subst}
use Rattle.std.specs.Prelude.{Contains}
use Rattle.share_lock.proofs.Steps.{splits}
use Rattle.share_lock.proofs.Tells.{numbers_are}
use Rattle.share_lock.proofs.pass.ShareLock.split.Goals as goal

pub split_seat-seat-requires : goal.split_seat-seat-requires
split_seat-seat-requires g c = (search rules, search rules, splits g.S.Recorded.entries g.S.Recorded.by g.S.Recorded.settings _ _ _)

pub returns-clause-another : goal.returns-clause-another
returns-clause-another g c has =
    let pass = c.args.pass.now in
    let avoid = ap (λ m. m.0.avoid) c.split_seat-seat.ensures.4 ∙ numbers_are pass.seat.me.0 pass.number pass.named in
    c.name-number.ensures.another (subst (λ ns. Contains ns c.name-number.result) (sym avoid) has)
