use Rattle.std.proofs.Common.{Some, sym, ap, subst, ◌∙◌}
use Rattle.item_store.specs.Stands.{StandsFor}
use Rattle.item_store.proofs.StandFacts.{newest_now}
use Rattle.item_store.proofs.store.ItemStore.get.Goals as goal

pub returns-in-Some : goal.returns-in-Some
returns-in-Some c = λ bs h. ap Some c.row.ensures ∙ c.in-Some.ensures ∙ newest_now (subst (StandsFor bs) (sym c.self.view_is) h) c.args.id

pub returns-in-None : goal.returns-in-None
returns-in-None c = λ bs h. c.in-None.ensures ∙ newest_now (subst (StandsFor bs) (sym c.self.view_is) h) c.args.id
