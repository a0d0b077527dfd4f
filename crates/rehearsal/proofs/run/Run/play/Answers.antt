use Rattle.std.proofs.Common.{◌≡◌, ◌≤◌, ap, subst, ◌∙◌, arith}
use Rattle.rehearsal.specs.Histories.{history_of}
use Rattle.rehearsal.specs.Running.{Stands, Mirrors}
use Rattle.rehearsal.proofs.RunFacts.{all_batches, has_first, on_err_anyway, on_ok_anyway}
use Rattle.rehearsal.proofs.run.Run.play.Goals as goal

pub summary-requires-clause-stands : goal.summary-requires-clause-stands
summary-requires-clause-stands c =
    let end : c.loop-n.n ≡ c.args.plan.now.batches = omega arith in
    subst (λ n. Stands c.args.plan.now n c.loop-n.self) end c.loop-n.invariant.0

pub summary-requires-clause-mirrors : goal.summary-requires-clause-mirrors
summary-requires-clause-mirrors c =
    let end : c.loop-n.n ≡ c.args.plan.now.batches = omega arith in
    subst (λ n. Mirrors c.args.plan.now n c.loop-n.self) end c.loop-n.invariant.1

pub returns-clause-whole : goal.returns-clause-whole
returns-clause-whole c =
    let plan = c.args.plan.now in
    let end : c.loop-n.n ≡ plan.batches = omega arith in
    let stands = subst (λ n. Stands plan n c.loop-n.self) end c.loop-n.invariant.0 in
    on_ok_anyway c.summary.result (stands.log ∙ ap history_of (all_batches plan))

pub returns-clause-part : goal.returns-clause-part
returns-clause-part c =
    let plan = c.args.plan.now in
    let end : c.loop-n.n ≤ plan.batches = omega arith in
    on_err_anyway c.summary.result (has_first plan c.loop-n.n c.loop-n.self.log.entries end c.loop-n.invariant.0.log)
