use Rattle.std.proofs.Common.{◌+◌, ◌∙◌, arith}
use Rattle.rehearsal.proofs.RunFacts.{has_first, on_err_anyway}
use Rattle.rehearsal.proofs.run.Run.step.Goals as goal

pub returns-in_err-edit-clause-part : goal.returns-in_err-edit-clause-part
returns-in_err-edit-clause-part c =
    on_err_anyway c.from_residual.result
    (has_first c.args.plan.now c.args.n c.edit.new.self.log.entries (omega (arith, c.requires.more)) (c.in_err-edit.ensures.kept ∙ c.requires.stands.log))

pub returns-clause-part : goal.returns-clause-part
returns-clause-part c =
    on_err_anyway c.follow.result (has_first c.args.plan.now (c.args.n + 1) c.follow.new.self.log.entries (omega (arith, c.requires.more)) c.follow.ensures.stands.log)
