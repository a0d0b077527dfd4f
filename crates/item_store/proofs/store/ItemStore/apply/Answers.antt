use Rattle.std.proofs.Common.{sym, ap, subst, ◌∙◌}
use Rattle.row_sheets.specs.Changes.{AreChanges}
use Rattle.share_history.specs.Keyed.{at}
use Rattle.item_store.specs.Stands.{StandsFor}
use Rattle.item_store.proofs.StandFacts.{present_more, said_own}
use Rattle.item_store.proofs.store.ItemStore.apply.Goals as goal

pub with_changes-requires : goal.with_changes-requires
with_changes-requires c =
    subst AreChanges (sym c.as_slice.ensures.value)
    (record {
      ascending = c.in_ok-changes.ensures.ascending;
      own = λ id row is. said_own id row c.args.edits.now (sym (c.in_ok-changes.ensures.said id) ∙ is);
    })

pub take_in-requires-clause-present : goal.take_in-requires-clause-present
take_in-requires-clause-present c = λ bs h.
    present_more bs c.args.edits.now c.self.inside.present c.in_ok-present.present c.as_slice.result.now (subst (StandsFor bs) (sym c.self.view_is) h).present
    (λ id. ap (at id) c.as_slice.ensures.value ∙ c.in_ok-changes.ensures.said id) c.in_ok-present.ensures.ascending c.in_ok-present.ensures.each
