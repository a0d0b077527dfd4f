use Rattle.std.proofs.Common.{rules, ◌∷◌, sym, ap, ◌∙◌, subst, Some}
use Rattle.atomic_table.specs.Table.{rest}
use Rattle.share_lock.specs.Histories.{Adds}
use Rattle.share_lock.proofs.Steps.{stores_at, leaves_at}
use Rattle.share_lock.proofs.seats.leave.Goals as goal

pub store-requires : goal.store-requires
store-requires g c =
    let now = c.exchange-put.ensures.3 in
    let added = c.requires.number in (
      search rules,
      search rules,
      stores_at g.S.Recorded.entries g.S.Recorded.by g.S.Recorded.settings _ _ _ _ c.args.state added.0 _ c.requires.table.1 (ap (λ m. m.1) now ∙ ap (λ l. (0, Some c.args.state) ∷ rest l) c.requires.inside.1)
          (ap (λ m. m.0.inside) now ∙ c.requires.inside.0) (ap (λ m. m.0.number) now ∙ added.1)
          (subst (λ l. Adds g.S.Recorded.by added.0 l (g.S.Recorded.entries c.args.state)) (sym (ap (λ m. m.0.noted) now)) added.2) c.requires.length,
    )

pub fetch_add-requires : goal.fetch_add-requires
fetch_add-requires g c =
    let now = c.exchange-put.ensures.3 in
    let has = ap (λ m. m.1) now ∙ ap (λ l. (0, Some c.args.state) ∷ rest l) c.requires.inside.1 in
    let noted = c.store.ensures.2 c.args.state has in (
      search rules,
      search rules,
      leaves_at g.S.Recorded.entries g.S.Recorded.by g.S.Recorded.settings _ _ _ _ c.args.state c.requires.table.1 (ap (λ m. m.1) noted ∙ has)
          (ap (λ m. m.0.inside) noted ∙ (ap (λ m. m.0.inside) now ∙ c.requires.inside.0)) (sym (ap (λ m. m.0.noted) noted))
          (c.requires.settings ∙ sym (ap (λ m. m.0.settings) noted ∙ ap (λ m. m.0.settings) now)) (search rules),
    )
