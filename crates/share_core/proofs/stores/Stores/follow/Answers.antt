use Rattle.std.proofs.Common.{◌∷◌, [], ◌++◌, map, ap, subst, sym, ◌∙◌}
use Rattle.share_history.specs.Histories.{edits}
use Rattle.share_history.specs.Rows.{library}
use Rattle.share_history.proofs.EditFacts.{edits_more}
use Rattle.share_history.proofs.RowFacts.{ascending-library}
use Rattle.prop_index.specs.Library.{FitInTurn}
use Rattle.share_core.specs.Turned.{change_to}
use Rattle.share_core.proofs.Standing.{index_follows, short_follows}
use Rattle.share_core.proofs.Turning.{leads}
use Rattle.share_core.proofs.stores.Stores.follow.Goals as goal

pub returns-in-Ok-clause-stand : goal.returns-in-Ok-clause-stand
returns-in-Ok-clause-stand g c = λ bs can.
    let batch = c.args.batch.now in
    let are = c.in_ok-changes.ensures.changes (bs ++ batch ∷ []) can.items ∙ ap (map (change_to (edits (bs ++ batch ∷ [])))) can.were in record {
      items = can.items;
      lists = c.in_ok-apply.ensures.stands bs can.others.lists can.items;
      index = index_follows bs batch c.as_slice.result.now c.args.self.now.index c.apply_all.new.self (c.as_slice.ensures.value ∙ are) c.in-Ok.ensures.ok can.others.index;
      short = short_follows bs batch c.in_ok-changes.changes.items are c.in_ok-changes.ensures.short can.short;
    }

pub returns-clause-unchanged : goal.returns-clause-unchanged
returns-clause-unchanged g c = λ bs can.
    let batch = c.args.batch.now in
    let are = c.in_ok-changes.ensures.changes (bs ++ batch ∷ []) can.items ∙ ap (map (change_to (edits (bs ++ batch ∷ [])))) can.were in
    let on = leads (edits bs) (edits (bs ++ batch ∷ [])) batch (edits_more bs batch) in record {
      lists = c.undo.ensures.stands bs batch (c.in_ok-apply.ensures.stands bs can.others.lists can.items);
      index = c.in-Err.ensures.err (library (edits bs)) (ascending-library (edits bs)) (subst (FitInTurn (library (edits bs))) (sym (c.as_slice.ensures.value ∙ are)) on.fit) can.others.index;
    }
