use Rattle.std.proofs.Common.{◌++◌, ◌∷◌, [], sym, ap, subst, ◌∙◌}
use Rattle.playlist_store.specs.Stands.{StandsFor}
use Rattle.playlist_store.proofs.WholeFacts.{undone}
use Rattle.playlist_store.proofs.store.PlaylistStore.undo.Goals as goal

pub returns-clause-stands : goal.returns-clause-stands
returns-clause-stands c = λ bs batch h.
    undone bs batch _ c.saturating_sub-self-inside.result _ c.take_back_batch.new.lists.entries
    (subst (StandsFor (bs ++ batch ∷ [])) (sym c.self.view_is) h) (ap (λ s. s.can_undo) c.self.view_is ∙ c.requires) c.saturating_sub-self-inside.ensures
    c.take_back_batch.ensures.named c.take_back_batch.ensures.lists
