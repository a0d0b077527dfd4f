use Rattle.std.proofs.Common.{◌+◌, take, sym, ap, ◌∙◌}
use Rattle.rehearsal.specs.Plan.{batches_of}
use Rattle.rehearsal.proofs.FollowFacts.{not_due, may_ask, was_due, same_mirror}
use Rattle.rehearsal.proofs.follower.RehearsedMirror.after_batch.Goals as goal

pub update_mirror-requires-clause-asks : goal.update_mirror-requires-clause-asks
update_mirror-requires-clause-asks c = (
  take (c.args.n + 1) (batches_of c.args.plan.now),
  c.requires.at.share,
  may_ask c.args.plan.now c.args.n c.args.self.now c.requires.follows,
)

pub returns-then-not-is_due-clause-follows : goal.returns-then-not-is_due-clause-follows
returns-then-not-is_due-clause-follows c = not_due c.args.plan.now c.args.n c.args.self.now c.requires.follows (sym c.is_due.ensures ∙ c.if-not-is_due.true)

pub returns-clause-follows : goal.returns-clause-follows
returns-clause-follows c =
    let bs = take (c.args.n + 1) (batches_of c.args.plan.now) in
    let asks = may_ask c.args.plan.now c.args.n c.args.self.now c.requires.follows in
    was_due c.args.plan.now c.args.n c.args.self.now c.count.new.self c.args.store.now c.in_ok-is_delta.is_delta c.requires.follows c.requires.at (sym c.is_due.ensures ∙ c.if-not-is_due.false)
    (c.count.ensures.mirror ∙ c.in_ok-is_delta.ensures.held bs c.requires.at.share asks)
    (c.in_ok-is_delta.ensures.delta bs c.requires.at.share asks)
    c.count.ensures.period c.count.ensures.delta c.count.ensures.full

pub returns-clause-mirror : goal.returns-clause-mirror
returns-clause-mirror c = λ often asked is.
    let bs = take (c.args.n + 1) (batches_of c.args.plan.now) in
    let asks = may_ask c.args.plan.now c.args.n c.args.self.now c.requires.follows in
    same_mirror c.args.self.now c.count.new.self asked often
    (ap (λ m. m.query) (c.count.ensures.mirror ∙ c.in_ok-is_delta.ensures.held bs c.requires.at.share asks))
    c.count.ensures.period is
