use Rattle.std.proofs.Common.{List, [], ◌∷◌, ◌++◌, ℕ, sym, ap, ◌∙◌, subst, Option, Some}
use Rattle.atomic_table.specs.Table.{opening}
use Rattle.share_lock.specs.Rule.{Holds, first_view}
use Rattle.share_lock.proofs.Steps.{starts}
use Rattle.share_lock.proofs.pass.ShareLock.open.Goals as goal

pub new-requires : goal.new-requires
new-requires g c =
    let words = ap (λ n. 0 ∷ 0 ∷ n ∷ 1 ∷ []) (sym c.recorded-seen.ensures) ∙ sym c.words.ensures in
    let items = ap (λ l. l ++ Some c.args.state ∷ []) (sym c.new-slots.ensures.items) ∙ sym c.in_ok-push.ensures.items in
    subst (λ (t : List ℕ × List (Option g.row.S.Denot) × g.row.S.Denot).
    Holds g.S.Recorded.entries g.S.Recorded.by g.S.Recorded.settings c.args.passes (opening t.0 t.1 (first_view c.args.passes (g.S.Recorded.settings t.2) (g.S.Recorded.entries t.2))))
    (λ i. (words i, items i, sym c.of.ensures i)) (starts g.S.Recorded.entries g.S.Recorded.by g.S.Recorded.settings c.args.passes c.args.state c.requires.opening c.requires.passes)
