-- What a worker's turns leave.
use Rattle.std.specs.Prelude.{◌≡◌, ◌++◌}
use Rattle.share_lock.specs.Passes.{LockId, known, IsReady}
use Rattle.lock_trials.specs.declared.work.Worker.{Worker}
use Rattle.lock_trials.specs.Work.{added_in, first_numbers, IsSame}

pub record HasWorked (id : LockId) (before now : Worker) : Type 0 where
  pub ready : IsReady id now.pass
  pub same : IsSame (known before.pass) (known now.pass)
  pub added : added_in (known now.pass) ≡ added_in (known before.pass) ++ first_numbers (known before.pass).number now.added
