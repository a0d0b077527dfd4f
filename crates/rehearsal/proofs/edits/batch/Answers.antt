use Rattle.rehearsal.proofs.DrawFacts.{more_edits}
use Rattle.rehearsal.proofs.edits.batch.Goals as goal

pub loop-made-preserved : goal.loop-made-preserved
loop-made-preserved c = λ number place begun.
    more_edits number place c.loop-made.made c.loop-made.draws.state c.edit.new.draws.state c.loop-made.edits c.push.new.self c.in_ok-edit.field-0
    (c.loop-made.invariant number place begun).0 (c.loop-made.invariant number place begun).1 c.in_ok-edit.ensures.draws c.in_ok-edit.ensures.edit c.in_ok-push.ensures.ok
