use Rattle.std.proofs.Common.{◌∷◌, sym, ap, subst}
use Rattle.share_lock.specs.Histories.{Continues}
use Rattle.share_lock.specs.Known.{numbers_of}
use Rattle.share_lock.specs.Passes.{known}
use Rattle.lock_trials.specs.Made.{by_of, numbers_in}
use Rattle.lock_trials.proofs.Joining.{seen_in}
use Rattle.lock_trials.proofs.gather.join_all.Goals as goal

pub returns-clause-seen : goal.returns-clause-seen
returns-clause-seen g c =
    let pass = c.join_others-pass.result in
    seen_in (numbers_in c.end.result) pass (c.args.first ∷ c.args.others.items) c.join_others-pass.ensures.covered
    (subst (λ s. Continues by_of (numbers_of (known pass)) (known pass).seen (numbers_in s)) (sym c.end.ensures.state) c.take-turn.ensures.history)
