use Rattle.std.proofs.Common.{take}
use Rattle.rehearsal.specs.Plan.{batches_of}
use Rattle.share_listings.proofs.OnSuccess.{if_ok}
use Rattle.rehearsal.proofs.RunFacts.{summed_up}
use Rattle.rehearsal.proofs.run.Run.summary.Goals as goal

pub returns : goal.returns
returns c =
    let plan = c.args.plan.now in
    if_ok c.summary.result
    (λ text is.
    summed_up plan c.args.self.now c.revision.result c.count.result c.standing.result c.standing-2.result c.standing-3.result text.items c.requires.range c.requires.mirrors c.requires.stands
    c.revision.ensures (c.count.ensures (take plan.batches (batches_of plan)) c.requires.stands.at.share.stands)
    c.standing.ensures.rows c.standing.ensures.full c.standing.ensures.delta
    c.standing-2.ensures.rows c.standing-2.ensures.full c.standing-2.ensures.delta
    c.standing-3.ensures.rows c.standing-3.ensures.full c.standing-3.ensures.delta is)
    c.summary.ensures
