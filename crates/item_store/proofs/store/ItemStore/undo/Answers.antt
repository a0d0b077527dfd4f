use Rattle.std.proofs.Common.{◌++◌, ◌∷◌, [], sym, ap, subst, ◌∙◌}
use Rattle.item_store.specs.Stands.{StandsFor}
use Rattle.item_store.proofs.StandFacts.{undone}
use Rattle.item_store.proofs.store.ItemStore.undo.Goals as goal

pub returns-clause-stands : goal.returns-clause-stands
returns-clause-stands c = λ bs batch h.
    undone bs batch _ c.saturating_sub-self-inside.result _ c.take_back_batch.new.held c.turn_back.new.present c.turn_back.new.before
    (subst (StandsFor (bs ++ batch ∷ [])) (sym c.self.view_is) h) (ap (λ s. s.can_undo) c.self.view_is ∙ c.requires) c.saturating_sub-self-inside.ensures
    c.take_back_batch.ensures.named c.take_back_batch.ensures.rows
    c.turn_back.ensures
