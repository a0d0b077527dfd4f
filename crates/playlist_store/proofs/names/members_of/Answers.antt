use Rattle.std.proofs.Common.{◌≡◌, ◌+◌, ◌++◌, drop, flat_map, rules}
use Rattle.std.proofs.lemmas.List.{at_drop_more}
use Rattle.std.proofs.lemmas.Result.{IfOk-from_err}
use Rattle.playlist_store.specs.Names.{members_in}
use Rattle.playlist_store.proofs.PickFacts.{picked_more, picked_all}
use Rattle.playlist_store.proofs.names.members_of.Goals as goal
use Rattle.playlist_store.proofs.names.members_of.Goals.{in-Some+in_ok-push, in_default}

pub returns-in_err-push : goal.returns-in_err-push
returns-in_err-push c = IfOk-from_err _ _ c.from_residual.ensures.0

pub loop-edit-preserved : goal.loop-edit-preserved
loop-edit-preserved c =
    let at = at_drop_more (flat_map members_in) c.args.batch.now c.loop-edit.edit-index c.edit-item.result c.loop-edit-test.true in
    let left = rw (at, ← c.edit-item.is) at c.loop-edit.invariant in
    let put : c.match-member_of.members.items ≡ c.loop-edit.members.items ++ members_in c.edit-item.result = elim c.match-member_of.branch [ in-Some+in_ok-push w ↦ search rules | in_default w ↦ search rules ] in
    picked_more members_in c.edit-item.result (drop (c.loop-edit.edit-index + 1) c.args.batch.now) _ _ _ put left

pub returns : goal.returns
returns c = picked_all members_in c.args.batch.now _ _ c.loop-edit.edit-index c.loop-edit-test.false c.loop-edit.invariant
