use Rattle.std.proofs.Common.{◌≡◌, ◌+◌, ◌++◌, drop, flat_map, rules}
use Rattle.std.proofs.lemmas.List.{at_drop_more}
use Rattle.std.proofs.lemmas.Result.{IfOk-from_err}
use Rattle.item_store.specs.Stands.{items_in}
use Rattle.playlist_store.proofs.PickFacts.{picked_more, picked_all}
use Rattle.playlist_store.proofs.names.items_of.Goals as goal
use Rattle.playlist_store.proofs.names.items_of.Goals.{in-Some+in_ok-push, in_default}

pub returns-in_err-push : goal.returns-in_err-push
returns-in_err-push c = IfOk-from_err _ _ c.from_residual.ensures.0

pub loop-edit-preserved : goal.loop-edit-preserved
loop-edit-preserved c =
    let at = at_drop_more (flat_map items_in) c.args.batch.now c.loop-edit.edit-index c.edit-item.result c.loop-edit-test.true in
    let left = rw (at, ← c.edit-item.is) at c.loop-edit.invariant in
    let put : c.match-item_of.ids.items ≡ c.loop-edit.ids.items ++ items_in c.edit-item.result = elim c.match-item_of.branch [ in-Some+in_ok-push w ↦ search rules | in_default w ↦ search rules ] in
    picked_more items_in c.edit-item.result (drop (c.loop-edit.edit-index + 1) c.args.batch.now) _ _ _ put left

pub returns : goal.returns
returns c = picked_all items_in c.args.batch.now _ _ c.loop-edit.edit-index c.loop-edit-test.false c.loop-edit.invariant
