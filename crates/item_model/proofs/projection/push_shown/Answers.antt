use Rattle.item_model.specs.declared.property.Property.TheVariants.{Minm}
use Rattle.item_model.proofs.Mentions.{shown_more}
use Rattle.item_model.proofs.projection.push_shown.Goals as goal

pub loop-property-preserved : goal.loop-property-preserved
loop-property-preserved c =
    let e = shown_more c.args.tags.now c.args.item.now c.args.properties.now c.loop-property.property-index Minm c.loop-property-test.true in
    rw (c.in_ok-push_property.ensures, c.loop-property.invariant) e
