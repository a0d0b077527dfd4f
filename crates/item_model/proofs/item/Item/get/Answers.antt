use Rattle.std.proofs.Common.{◌≡◌, true, ap, ◌∙◌}
use Rattle.item_model.specs.Items.{is_value_of, value_of}
use Rattle.item_model.proofs.Places.{value_fits, through}
use Rattle.item_model.proofs.item.Item.get.Goals as goal

pub returns-clause-fits : goal.returns-clause-fits
returns-clause-fits c =
    through (λ v. is_value_of c.args.property v ≡ true) _ _
    (c.find_value.ensures ∙ ap (value_of c.args.property) c.as_slice.ensures.value)
    (value_fits c.args.property 0 _ c.self.invariant.0)
