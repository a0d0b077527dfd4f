use Rattle.std.proofs.Common.{Some, ap, ◌∙◌}
use Rattle.key_versions.specs.Held.{value_at}
use Rattle.item_store.proofs.StandFacts.{item_then}
use Rattle.item_store.proofs.store.ItemStore.version_at.Goals as goal

pub returns-in-Some : goal.returns-in-Some
returns-in-Some c = λ bs h.
    ap Some c.row.ensures ∙ c.in-Some.ensures ∙ ap (λ s. value_at s.versions c.args.id c.args.base) c.self.view_is ∙ item_then h c.args.id c.args.base c.requires.from

pub returns-in-None : goal.returns-in-None
returns-in-None c = λ bs h.
    c.in-None.ensures ∙ ap (λ s. value_at s.versions c.args.id c.args.base) c.self.view_is ∙ item_then h c.args.id c.args.base c.requires.from
