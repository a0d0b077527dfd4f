use Rattle.std.proofs.Common.{◌≡◌, ◌∷◌, ◌+◌, ◌<◌, length, drop, option_copied, rules}
use Rattle.share_history.proofs.EditFacts.{drop_more}
use Rattle.prop_index.proofs.TurnFacts.{midway_more}
use Rattle.prop_index.proofs.changes.turns_of.Goals as goal

-- one change more was taken in
pub loop-change-preserved : goal.loop-change-preserved
loop-change-preserved c = λ rows rising fits.
    let change = c.change-item.result in
    let within : c.loop-change.change-index < length c.args.changes.now = search rules in
    let left : drop c.loop-change.change-index c.args.changes.now ≡ change ∷ drop (c.loop-change.change-index + 1) c.args.changes.now =
    drop_more c.args.changes.now c.loop-change.change-index change within (search rules) in
    let old : option_copied c.row_of.result ≡ change.old = search rules in
    let new : option_copied c.row_of-in-loop-change.result ≡ change.new = search rules in
    midway_more rows c.loop-change.turns.entries c.add.new.turns.entries _ _ _ change _ _ left old new c.in_ok-add.ensures
    (c.loop-change.invariant rows rising fits)
