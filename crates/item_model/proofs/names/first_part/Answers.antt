use Rattle.std.proofs.Common.{◌∙◌}
use Rattle.item_model.proofs.Parts.{onto_nothing, part_here}
use Rattle.item_model.proofs.names.first_part.Goals as goal

pub loop-i-init : goal.loop-i-init
loop-i-init c = onto_nothing c.args.text.now

pub returns-then-byte-eq44-clause-parts : goal.returns-then-byte-eq44-clause-parts
returns-then-byte-eq44-clause-parts c =
    rw (c.split_at.ensures.front, c.split_at-then-byte-eq44.ensures.back)
    (c.loop-i.invariant ∙ part_here c.args.text.now c.loop-i.i c.loop-i-test.true c.if-byte-eq44.true)
