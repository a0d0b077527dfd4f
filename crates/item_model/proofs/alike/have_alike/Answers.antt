use Rattle.std.proofs.Common.{rules}
use Rattle.item_model.specs.declared.property.Property.TheVariants.{Minm}
use Rattle.item_model.proofs.AlikeFacts.{alike_at}
use Rattle.item_model.proofs.alike.have_alike.Goals as goal

pub returns-then-not-have_equal_value : goal.returns-then-not-have_equal_value
returns-then-not-have_equal_value c =
    let step = alike_at c.args.old.now c.args.new.now c.args.properties.now c.loop-property.property-index Minm c.loop-property-test.true in
    let inv = c.loop-property.invariant in
    search rules

pub loop-property-preserved : goal.loop-property-preserved
loop-property-preserved c =
    let step = alike_at c.args.old.now c.args.new.now c.args.properties.now c.loop-property.property-index Minm c.loop-property-test.true in
    let inv = c.loop-property.invariant in
    search rules
