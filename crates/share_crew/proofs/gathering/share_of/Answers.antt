use Rattle.std.proofs.Common.{◌+◌, ◌<◌, ◌++◌, length, sym, subst}
use Rattle.std.specs.List.{AllByRecursion}
use Rattle.std.specs.Prelude.{All}
use Rattle.share_lock.specs.Histories.{Continues}
use Rattle.share_lock.specs.Known.{numbers_of}
use Rattle.share_lock.specs.Passes.{known, passes_of}
use Rattle.share_replies.specs.Laws.{maker}
use Rattle.share_crew.specs.WorkerRuns.{IsNumbered, passes_in}
use Rattle.share_crew.proofs.OneHistory.{one_history}
use Rattle.share_crew.proofs.gathering.share_of.Goals as goal

pub returns : goal.returns
returns g c = λ settings opening worker_runs others opened joined numbered count.
    let passes = passes_of c.args.lock.now in
    let k = known c.args.first.now in
    let all = passes_in worker_runs ++ others in
    one_history k c.end.result.history worker_runs others opened joined (subst (λ n. AllByRecursion (IsNumbered n) all) count numbered)
    (subst (λ s. Continues maker (numbers_of k) k.seen s.history) (sym c.end.ensures.state) c.take-turn.ensures.history)
    (subst (λ n. All (λ e. maker e < n) c.end.result.history) count (subst (λ s. All (λ e. maker e < passes) s.history) (sym c.end.ensures.state) c.take-turn.ensures.numbers))
