use Rattle.std.proofs.Common.{rules, ap, ◌∙◌}
use Rattle.share_lock.proofs.Steps.{names}
use Rattle.share_lock.proofs.seats.name.Goals as goal

pub compare_exchange-requires : goal.compare_exchange-requires
compare_exchange-requires g c = let same = c.loop.invariant.1 in (
  search rules,
  search rules,
  names g.S.Recorded.entries g.S.Recorded.by g.S.Recorded.settings _ _ _ _ _ (search rules) (ap (λ m. m.0.number) same ∙ c.requires.unnamed.0) (ap (λ m. m.0.inside) same ∙ c.requires.unnamed.1),
)
