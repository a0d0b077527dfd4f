-- A share under its lock, with capacity for its workers.
use Rattle.std.specs.Prelude.{◌≡◌, ◌⊎◌, ◌≤◌, ℕ, ◌++◌, List, [], vec_capacity, Result, MatchResult}
use Rattle.share_lock.specs.Known.{fresh}
use Rattle.share_lock.specs.Passes.{lock_id, passes_of, known, IsReady}
use Rattle.share_crew.specs.declared.opening.LockedShare.{LockedShare}
use Rattle.share_crew.specs.declared.opening.WorkerBuffers.{WorkerBuffers}
use Rattle.command_core.specs.Answers.{Writes}
use Rattle.command_core.specs.Endings.{IsWritten, IsCut}
use Rattle.command_core.specs.Faults.{memory_line}
use Rattle.command_core.specs.Seen.{OutputSeen}
use Rattle.share_replies.specs.Answers.{Shared}

module _ {D : Type 0} where
  -- no worker yet, and capacity for `workers`
  pub record HasRoom (workers : ℕ) (room : WorkerBuffers D) : Type 0 where
    pub no_crew : room.crew.items ≡ []
    pub no_links : room.links.items ≡ []
    pub crew : workers ≤ vec_capacity room.crew
    pub links : workers ≤ vec_capacity room.links

  -- the share is under a lock for `passes` handles, the first of which has seen its opening
  pub record IsBegun (passes : ℕ) (share : Shared) (room : WorkerBuffers D) (begun : LockedShare D) : Type 0 where
    pub passes_are : passes_of begun.lock ≡ passes
    pub ready : IsReady (lock_id begun.lock) begun.first
    pub pass : known begun.first ≡ fresh 0 share.settings share.history
    pub room_is : begun.room ≡ room

  -- the share is under its lock after its line was written; or the output failed in that line, or an allocation after
  -- it
  abbrev pub WritesAndLocks : (passes : ℕ) → Shared → WorkerBuffers D → (line : List ℕ) → OutputSeen → OutputSeen → Result (LockedShare D) ℕ → Type 0
  WritesAndLocks passes share room line before after result =
      MatchResult result
      (λ begun. IsBegun passes share room begun × IsWritten before after line)
      (λ status. ((status ≡ 5) × IsCut before after line) ⊎ Writes 9 (line ++ memory_line) before after status)
