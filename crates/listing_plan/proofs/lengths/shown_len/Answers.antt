use Rattle.std.proofs.Common.{arith}
use Rattle.item_model.specs.declared.property.Property.TheVariants.{Minm}
use Rattle.listing_plan.proofs.Short.{shown_length_at, most_at, once_short}
use Rattle.listing_plan.proofs.lengths.shown_len.Goals as goal

pub overflow_add-len : goal.overflow_add-len
overflow_add-len c =
    let ps = c.args.properties.now in
    omega (arith, most_at ps c.loop-property.property-index Minm c.loop-property-test.true, once_short ps c.requires.once, c.loop-property.invariant.short, c.property_len-len.ensures.short)

pub loop-property-preserved : goal.loop-property-preserved
loop-property-preserved c =
    let ps = c.args.properties.now in
    record {
      counted = omega (arith, shown_length_at c.args.item.now ps c.loop-property.property-index Minm c.loop-property-test.true, c.loop-property.invariant.counted, c.property_len-len.ensures.counted);
      short = omega (arith, most_at ps c.loop-property.property-index Minm c.loop-property-test.true, c.loop-property.invariant.short, c.property_len-len.ensures.short);
    }
