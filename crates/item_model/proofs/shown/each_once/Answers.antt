use Rattle.std.proofs.Common.{◌≤◌, ◌++◌, ◌∙◌, take, get_or, length, ap, sym, subst}
use Rattle.std.proofs.lemmas.List.{take_more}
use Rattle.item_model.specs.declared.property.Property.TheVariants.{Minm}
use Rattle.item_model.specs.Projection.{first_mentions, new_mention}
use Rattle.item_model.proofs.Few.{mention_last, mention_room}
use Rattle.item_model.proofs.shown.each_once.Goals as goal

pub mention-requires : goal.mention-requires
mention-requires c =
    subst (λ ps. length (ps ++ new_mention ps (get_or c.args.properties.now c.loop-property.property-index Minm)) ≤ 26) (sym c.loop-property.invariant)
    (mention_room (take c.loop-property.property-index c.args.properties.now) (get_or c.args.properties.now c.loop-property.property-index Minm))

pub loop-property-preserved : goal.loop-property-preserved
loop-property-preserved c =
    let mentioned = mention_last (take c.loop-property.property-index c.args.properties.now) (get_or c.args.properties.now c.loop-property.property-index Minm) in
    let more = take_more c.args.properties.now c.loop-property.property-index Minm c.loop-property-test.true in
    rw (c.mention.ensures, c.loop-property.invariant) (mentioned ∙ ap first_mentions (sym more))
