-- A share under its lock, with capacity for its workers.
use Rattle.std.specs.Prelude.{◌≡◌, ◌+◌, List}
use Rattle.item_model.specs.declared.changes.Entry.{Entry}
use Rattle.share_lock.specs.Known.{fresh}
use Rattle.share_lock.specs.Passes.{lock_id, passes_of, known, IsReady}
use Rattle.command_core.specs.Endings.{IsWritten}
use Rattle.command_core.specs.Seen.{OutputSeen}
use Rattle.share_crew.specs.declared.opening.LockedShare.{LockedShare}
use Rattle.share_crew.specs.Begun.{HasRoom}
use Rattle.serve_command.specs.declared.terms.Serving.{Serving}
use Rattle.serve_command.specs.Runs.{first_line}
use Rattle.serve_command.specs.Terms.{settings_of, workers_of}

module _ {D : Type 0} where
  -- its first lock handle has seen the opening, and the lock has one more for each worker
  pub record IsBegunWith (serving : Serving) (opened : List Entry) (begun : LockedShare D) : Type 0 where
    pub passes : passes_of begun.lock ≡ workers_of serving + 1
    pub pass : known begun.first ≡ fresh 0 (settings_of serving) opened

  -- .. and its line was written
  pub record HasBegun (serving : Serving) (opened : List Entry) (output output' : OutputSeen) (begun : LockedShare D) : Type 0 where
    pub ready : IsReady (lock_id begun.lock) begun.first
    pub begun_with : IsBegunWith serving opened begun
    pub room : HasRoom (workers_of serving) begun.room
    pub written : IsWritten output output' (first_line serving opened)
