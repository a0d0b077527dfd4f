use Rattle.std.proofs.Common.{rules}
use Rattle.item_model.specs.declared.property.Property.TheVariants.{Minm}
use Rattle.listing_plan.proofs.Short.{put_room}
use Rattle.listing_plan.proofs.rows.put_shown.Goals as goal

pub put_property-requires : goal.put_property-requires
put_property-requires g c =
    (search rules, put_room c.args.item.now c.args.properties.now c.loop-property.property-index Minm c.loop-property.page c.args.page.now g.row.N c.loop-property-test.true c.loop-property.invariant c.requires)
