use Rattle.std.proofs.Common.{◌+◌, ◌*◌, ◌++◌, ◌∷◌, [], take, sym, ap, ◌∙◌, arith}
use Rattle.item_model.specs.declared.changes.Entry.TheVariants.{Edits}
use Rattle.rehearsal.specs.Plan.{batches_of}
use Rattle.rehearsal.proofs.RunFacts.{log_revision, store_revision, few_logged, valid_batch, edited}
use Rattle.rehearsal.proofs.run.Run.edit.Goals as goal

pub overflow_add-revision : goal.overflow_add-revision
overflow_add-revision c =
    omega (
      arith,
      c.revision.ensures,
      c.requires.range.batches_to,
      c.requires.more,
      log_revision c.args.plan.now c.args.n c.reserve.new.self.entries c.requires.range c.requires.more (c.in_ok-reserve.ensures.list ∙ c.requires.stands.log),
    )

pub apply-requires-clause-next : goal.apply-requires-clause-next
apply-requires-clause-next c =
    ap (λ k. k + 1)
    (c.revision.ensures ∙ log_revision c.args.plan.now c.args.n c.reserve.new.self.entries c.requires.range c.requires.more (c.in_ok-reserve.ensures.list ∙ c.requires.stands.log)
    ∙ sym (store_revision c.args.plan.now c.args.n c.args.self.now.store c.requires.more c.requires.stands.at))

pub apply-requires-clause-valid : goal.apply-requires-clause-valid
apply-requires-clause-valid c =
    valid_batch c.args.plan.now c.args.n c.as_slice.result.now
    (c.as_slice.ensures ∙ c.batch-2.view_is ∙ c.in_ok-batch.ensures.edits c.args.plan.now.number (c.args.n * c.args.plan.now.size) c.requires.stands.draws)

pub append-requires-clause-few : goal.append-requires-clause-few
append-requires-clause-few c =
    few_logged c.args.plan.now c.args.n c.reserve.new.self.entries c.in_ok-batch.batch c.requires.range c.requires.more (c.in_ok-reserve.ensures.list ∙ c.requires.stands.log)

pub returns-clause-stands : goal.returns-clause-stands
returns-clause-stands c =
    let plan = c.args.plan.now in
    let is = c.in_ok-batch.ensures.edits plan.number (c.args.n * plan.size) c.requires.stands.draws in
    edited plan c.args.n c.args.self.now
    (record { draws = c.batch.new.draws; log = c.append.new.self; store = c.apply.new.self; first = c.args.self.now.first; second = c.args.self.now.second; third = c.args.self.now.third })
    c.as_slice.result.now c.in_ok-batch.batch c.requires.range c.requires.more c.requires.stands
    (c.in_ok-batch.ensures.draws plan.number (c.args.n * plan.size) c.requires.stands.draws)
    (c.as_slice.ensures ∙ c.batch-2.view_is ∙ is) is
    (c.append.ensures.list ∙ ap (λ es. es ++ Edits 0 c.in_ok-batch.batch ∷ []) c.in_ok-reserve.ensures.list)
    (c.in_ok-apply.ensures.stands (take c.args.n (batches_of plan)) c.requires.stands.at.share.stands)
    c.in_ok-apply.ensures.keep
