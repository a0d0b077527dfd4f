use Rattle.std.proofs.Common.{rules, sym, ap, ◌∙◌, subst}
use Rattle.std.specs.Prelude.{Contains}
use Rattle.share_lock.proofs.Steps.{merges, tells}
use Rattle.share_lock.proofs.Tells.{numbers_are}
use Rattle.share_lock.proofs.pass.ShareLock.join.Goals as goal

pub join_seat-requires : goal.join_seat-requires
join_seat-requires g c = (
  search rules,
  search rules,
  search rules,
  search rules,
  merges g.S.Recorded.entries g.S.Recorded.by g.S.Recorded.settings _ _ _ _ _ g.S.Recorded.unset c.requires.ready.outside c.requires.other.outside c.requires.other.idle,
)

pub load-pass-requires : goal.load-pass-requires
load-pass-requires g c = (search rules, search rules, tells g.S.Recorded.entries g.S.Recorded.by g.S.Recorded.settings _ _ _ _)

pub returns-clause-apart : goal.returns-clause-apart
returns-clause-apart g c n mine his =
    let pass = c.args.pass.now in
    let other = c.args.other in
    let one = ap (λ m. m.0.one.numbers) c.join_seat.ensures.2 ∙ numbers_are pass.seat.me.0 pass.number pass.named in
    let two = ap (λ m. m.0.two.numbers) c.join_seat.ensures.2 ∙ numbers_are other.seat.me.0 other.number other.named in
    c.load-pass.ensures.2.1.apart n (subst (λ ns. Contains ns n) (sym one) mine) (subst (λ ns. Contains ns n) (sym two) his)
