use Rattle.std.proofs.Common.{◌<◌, ◌∙◌, ap, length, map, refl, arith, rules}
use Rattle.std.proofs.lemmas.List.{map_more, take_all}
use Rattle.item_model.specs.declared.property.Property.TheVariants.{Minm}
use Rattle.records_import.specs.declared.header.Column.TheVariants as holds
use Rattle.records_import.proofs.writing.property_columns.Goals as goal

pub returns-in_err-push : goal.returns-in_err-push
returns-in_err-push c = search rules

-- one more column
pub loop-property-preserved : goal.loop-property-preserved
loop-property-preserved c =
    let properties = c.args.properties.now in
    let i = c.loop-property.property-index in
    let inside : i < length properties = omega arith in
    rw (c.in_ok-push.ensures.items, c.loop-property.invariant, map_more (λ p. holds.Property p) properties i Minm inside) refl

pub returns : goal.returns
returns c = c.loop-property.invariant ∙ ap (map (λ p. holds.Property p)) (take_all c.loop-property.property-index c.args.properties.now c.loop-property-test.false)
