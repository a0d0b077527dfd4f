use Rattle.std.proofs.Common.{◌≡◌, length, take, false, arith, rules}
use Rattle.item_model.specs.Projection.{mentions}
use Rattle.item_model.proofs.Few.{kept_once, place_left}
use Rattle.item_model.proofs.shown.ShownProperties.mention.Goals as goal

pub invariant_of-self : goal.invariant_of-self
invariant_of-self c =
    let new : mentions (take c.self.inside.len c.self.inside.room) c.args.property ≡ false = search rules in
    let full : length c.self.inside.room ≡ 26 = search rules in
    let room = place_left c.self.inside.room c.self.inside.len c.args.property full c.self.invariant.0 new (rw (← c.self.view_is) at c.requires) in
    (omega (arith, full, room), kept_once c.self.inside.room c.self.inside.len c.args.property room new c.self.invariant.1)
