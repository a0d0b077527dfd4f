-- How a run of `relay` ends.
use Rattle.std.specs.Prelude.{◌≡◌, ◌⊎◌, ◌+◌, ◌||◌, ℕ, List, [], ◌∷◌, ◌++◌, map, MatchBool, Option, Some, None, IfSome, is_none, nat_lt, option_map, if◌then◌else◌}
use Rattle.std.specs.List.{flat_map, AllByRecursion}
use Rattle.outside_net.specs.Counts.{Rose}
use Rattle.outside_net.specs.Told.{BeginsEmpty, Grows, GrowsByTold}
use Rattle.item_model.specs.declared.changes.Entry.{Entry}
use Rattle.share_history.specs.Histories.{batches, revision}
use Rattle.share_history.specs.Whole as histories
use Rattle.share_lock.specs.Known.{fresh}
use Rattle.share_server.specs.Passes.{Pass}
use Rattle.share_server.specs.declared.report.LinkReport.{LinkReport}
use Rattle.share_workers.specs.declared.worker.WorkerEnd.TheVariants.{AcceptFault}
use Rattle.command_core.specs.declared.fault.Fault.{Fault}
use Rattle.command_core.specs.declared.fault.Fault.TheVariants.{Memory}
use Rattle.command_core.specs.Answers.{Writes}
use Rattle.command_core.specs.Endings.{IsWritten}
use Rattle.command_core.specs.Faults.{fault_line, fault_status, memory_line}
use Rattle.command_core.specs.Seen.{NetSeen, OutputSeen}
use Rattle.link_commands.specs.Linked.{LinkSeen, start_of}
use Rattle.share_crew.specs.declared.outcome.Outcome.{Outcome}
use Rattle.share_crew.specs.Listeners.{HaveLinks}
use Rattle.share_crew.specs.Lines.{ended_line}
use Rattle.share_crew.specs.WorkerRuns.{WorkerRun, IsHistoryOf, IsWhole, returns_of}
use Rattle.share_crew.specs.Verdicts.{has_end, verdict_of}
use Rattle.relay_share.specs.Ends.{HasRelayed, is_fault}
use Rattle.relay_share.specs.declared.report.Relayed.{Relayed}
use Rattle.relay_share.specs.declared.report.RelayReport.{RelayReport}
use Rattle.relay_command.specs.declared.fault.RelayFault.{RelayFault}
use Rattle.relay_command.specs.declared.terms.Relaying.{Relaying}
use Rattle.relay_command.specs.Begun.{NotAnnounced}
use Rattle.relay_command.specs.Faults.{crew_fault, end_fault, relay_line, relay_status, worse_of}
use Rattle.relay_command.specs.Lines.{relaying_line, round_lines}
use Rattle.relay_command.specs.Places.{FailsToOpen, HasClosedUnused}
use Rattle.relay_command.specs.Terms.{places_of, roles_of, settings_of}

-- ---- what is written at the end

-- the lines of the rounds, and the last line if there is no error
abbrev pub last_lines : (revision : ℕ) → List (List LinkReport) → List Relayed → Option (Fault RelayFault) → List ℕ
last_lines revision links rounds fault = round_lines rounds ++ (if is_none fault then ended_line revision links else [])

-- the text, and then the line of the error, if there is one, or that of out of memory
abbrev pub WritesThenError : (text : List ℕ) → Option (Fault RelayFault) → OutputSeen → OutputSeen → ℕ → Type 0
WritesThenError text None before after status = Writes 0 text before after status
WritesThenError text (Some fault) before after status =
    Writes (fault_status relay_status fault) (text ++ fault_line relay_line fault) before after status ⊎ Writes 9 (text ++ memory_line) before after status

abbrev pub WritesLastError : Option (Fault RelayFault) → OutputSeen → OutputSeen → ℕ → Type 0
WritesLastError fault before after status = WritesThenError [] fault before after status

-- the lines and the error's line were written, or an allocation for the lines failed
abbrev pub WritesEnd : (lines : List ℕ) → Option (Fault RelayFault) → OutputSeen → OutputSeen → ℕ → Type 0
WritesEnd lines fault before after status = WritesThenError lines fault before after status ⊎ WritesLastError (worse_of fault (Some Memory)) before after status

-- ---- the run

-- the relay of a run: its lock handle at the end, its connection, and its report
pub record RelayRun : Type 0 where
  pub pass : Pass
  pub link : LinkSeen
  pub report : RelayReport

-- The share was served and its upstream was relayed: the worker runs of its workers, that of the relay, the history that
-- they left, and what was written of them.
pub record HasServed (relaying : Relaying) (front : List ℕ) (net net' : NetSeen) (output output' : OutputSeen) (left : Outcome) : Type 0 where
  pub history : List Entry
  pub history_is : left.history ≡ Some history
  pub whole_history : histories.IsWhole history
  pub crew : List (WorkerRun (settings_of relaying) [])
  pub roles : map (λ worker_run. worker_run.role) crew ≡ roles_of relaying
  pub links : left.links ≡ map (λ worker_run. worker_run.reports) crew
  -- each saw a prefix of the history, and added the entries of its number
  pub relay : RelayRun
  pub one : IsHistoryOf (relaying.workers + 1) history crew (relay.pass ∷ [])
  -- the relay made its rounds over a new connection
  pub begun : BeginsEmpty net.written relay.link.begun
  pub input : IfSome net.next_input (λ input. relay.link.left ≡ Some input)
  pub relayed : HasRelayed relaying.upstream relaying.rounds (start_of relay.link) relay.link.taken (fresh relay.pass.number (settings_of relaying) []) relay.pass relay.report
  -- each worker had a listener, which was closed, and then the connection was
  pub to_come : HaveLinks net.listener_links (map (λ worker_run. worker_run.to_come) crew)
  pub asked : Grows net.asked net'.asked (places_of relaying)
  pub written : GrowsByTold net.written net'.written (option_map (λ bytes. flat_map returns_of crew ++ (bytes, nat_lt 0 relay.link.faults) ∷ []) relay.link.taken)
  pub counts : MatchBool (has_end AcceptFault (map (λ worker_run. worker_run.end) crew) || is_fault relay.report.end) (Rose net.faults net'.faults) (net'.faults ≡ net.faults)
  -- the first line was written whole, so a share whose first line fails is not served; what is written at the end
  -- follows
  pub at_line : OutputSeen
  pub line_written : IsWritten output at_line front
  pub told : WritesEnd
      (last_lines (revision (batches history)) left.links relay.report.rounds.items (worse_of (crew_fault (verdict_of (map (λ worker_run. worker_run.end) crew))) (end_fault relay.report.end)))
      (worse_of (crew_fault (verdict_of (map (λ worker_run. worker_run.end) crew))) (end_fault relay.report.end)) at_line output' left.status
  -- status 0 says that all connections were served, or that a stop came
  pub whole : left.status ≡ 0 → AllByRecursion (IsWhole history) crew

-- no share was put under a lock
pub record HasNoShare (left : Outcome) : Type 0 where
  pub history : left.history ≡ None
  pub links : left.links ≡ []

abbrev pub WritesStop : Fault RelayFault → OutputSeen → OutputSeen → ℕ → Type 0
WritesStop stop before after status = WritesLastError (Some stop) before after status

pub data RelayEnds (relaying : Relaying) (net net' : NetSeen) (output output' : OutputSeen) (left : Outcome) : Type 0 where
  unopened : (stop : Fault RelayFault) → FailsToOpen relaying net net' stop → WritesStop stop output output' left.status → HasNoShare left
      → RelayEnds relaying net net' output output' left
  unannounced : NotAnnounced (relaying_line relaying.name) output output' left.status → HasClosedUnused relaying net net' → HasNoShare left
      → RelayEnds relaying net net' output output' left
  served : HasServed relaying (relaying_line relaying.name) net net' output output' left → RelayEnds relaying net net' output output' left
