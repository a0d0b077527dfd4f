-- The specification of a command that reaches a share over a connection, and how a run of it ends.
use Rattle.std.specs.Prelude.{◌≡◌, ◌⊎◌, ◌++◌, ◌∷◌, [], ℕ, List, None}
use Rattle.outside_net.specs.Counts.{Rose}
use Rattle.outside_net.specs.Told.{Grows}
use Rattle.command_core.specs.declared.fault.Fault.{Fault}
use Rattle.command_core.specs.declared.outcome.Outcome.{Outcome}
use Rattle.command_core.specs.Endings.{Ending, Done, OutputCut, Refused, LineCut, IsWritten, IsCut}
use Rattle.command_core.specs.Faults.{fault_line, fault_status}
use Rattle.command_core.specs.Seen.{OutputSeen, Seen, Run}

-- of every run: it connects at most once; the network's error counter rose if the status reports a network failure, and
-- did not if the run succeeded
pub record KeepsNet (host : List ℕ) (told : Run) (status : ℕ) : Type 0 where
  pub asked : (told.after.around.net ≡ told.before.around.net) ⊎ Grows told.before.around.net.asked told.after.around.net.asked ((host, 0) ∷ [])
  pub rose : status ≡ 6 → Rose told.before.around.net.faults told.after.around.net.faults
  pub faultless : status ≡ 0 → told.after.around.net.faults ≡ told.before.around.net.faults

pub record LinkMeaning : Type 1 where
  -- its own errors, each with its line and its status
  pub fault : Type 0
  pub line : fault → List ℕ
  pub status : fault → ℕ
  -- it succeeds, with this output
  pub is_done : Seen → Seen → List ℕ → Type 0
  -- what it had written, and what it had to write next, when the output failed
  pub is_begun : Seen → Seen → (front last : List ℕ) → Type 0
  -- an error ends it, by its cause, after this prefix of the output
  pub stops : Seen → Seen → Fault fault → List ℕ → Type 0
  -- what follows for a run and its status if enough is known of the outside
  pub promises : Run → ℕ → Type 0

abbrev pub ending_status : (m : LinkMeaning) → Ending m.fault → ℕ
ending_status m (Done output) = 0
ending_status m (OutputCut output) = 5
ending_status m (Refused front fault) = fault_status m.status fault
ending_status m (LineCut front fault) = 5

-- `front` was written whole, and then the output failed in `last`
pub record IsCutBehind (before after : OutputSeen) (front last : List ℕ) : Type 0 where
  pub at_cut : OutputSeen
  pub written : IsWritten before at_cut front
  pub cut : IsCut at_cut after last

-- the output failed in the last part of `output`, and nothing was done since
pub record IsOutputCut (m : LinkMeaning) (told : Run) (output : List ℕ) : Type 0 where
  pub front : List ℕ
  pub last : List ℕ
  pub is : output ≡ front ++ last
  pub begun : m.is_begun told.before told.after front last
  pub cut : IsCutBehind told.output_before told.output_after front last

-- the ways in which a run may end
abbrev pub EndsAs : (m : LinkMeaning) → Run → Ending m.fault → Type 0
EndsAs m told (Done output) = m.is_done told.before told.after output × IsWritten told.output_before told.output_after output
EndsAs m told (OutputCut output) = IsOutputCut m told output
EndsAs m told (Refused front fault) =
    m.stops told.before told.after fault front × IsWritten told.output_before told.output_after (front ++ fault_line m.line fault)
EndsAs m told (LineCut front fault) =
    m.stops told.before told.after fault front × IsCutBehind told.output_before told.output_after front (fault_line m.line fault)

-- the run ended in one of them, with its status
abbrev pub LinkEnds : (m : LinkMeaning) → Run → ℕ → Type 0
LinkEnds m told status = (ending : Ending m.fault) × (status ≡ ending_status m ending) × EndsAs m told ending

-- the outcome of a run is as the specification says; the command opens no share
pub record IsLinkAnswered (m : LinkMeaning) (told : Run) (outcome : Outcome) : Type 0 where
  pub unopened : outcome.history ≡ None
  pub ends : LinkEnds m told outcome.status
  pub promised : m.promises told outcome.status
