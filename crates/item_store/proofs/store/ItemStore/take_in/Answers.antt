use Rattle.std.proofs.Common.{◌+◌, ◌-◌, ℕ, List, Vec, Global, map, drop, sym, ap, subst, ◌∙◌}
use Rattle.std.proofs.lemmas.List.{drop-map}
use Rattle.item_store.specs.Stands.{StandsFor}
use Rattle.item_store.proofs.StandFacts.{applied, not_applied}
use Rattle.item_store.proofs.store.ItemStore.take_in.Goals as goal

abbrev ids_in : Vec ℕ Global → List ℕ
ids_in ids = ids.items

pub returns-in-Ok-clause-stands : goal.returns-in-Ok-clause-stands
returns-in-Ok-clause-stands c = λ bs h.
    let passed : ℕ = c.floor-low.result - c.self.inside.low in
    applied bs c.args.batch.now _ c.args.revision c.floor-low.result c.in-Ok.count _ c.take_in_batch-taken.new.held c.prune_to.new.held c.turn.new.present c.turn.new.before
    (subst (StandsFor bs) (sym c.self.view_is) h) c.requires.valid (c.requires.next ∙ ap (λ s. s.revision + 1) (sym c.self.view_is)) c.floor-low.ensures
    (ap (map ids_in) c.prune_to.ensures.named ∙ sym (drop-map ids_in passed c.take_in_batch-taken.new.named.items) ∙ ap (drop passed) c.in-Ok.ensures.named)
    c.in-Ok.ensures.items c.in-Ok.ensures.before c.prune_to.ensures.rows
    (c.turn.ensures.present ∙ c.requires.present bs h) c.turn.ensures.before

pub returns-in-Err-clause-unchanged : goal.returns-in-Err-clause-unchanged
returns-in-Err-clause-unchanged c =
    not_applied c.self.view_is c.args.revision _ c.take_in_batch-taken.new.held c.requires.next c.in-Err.ensures.named_left c.in-Err.ensures.rows_left
