-- How a run of `serve` ends.
use Rattle.std.specs.Prelude.{◌≡◌, ◌⊎◌, ℕ, List, [], ◌∷◌, ◌++◌, Bool, false, map, Option, Some, None}
use Rattle.std.specs.List.{flat_map, AllByRecursion}
use Rattle.item_model.specs.declared.changes.Edit.{Edit}
use Rattle.item_model.specs.declared.changes.Entry.{Entry}
use Rattle.outside_net.specs.Told.{Grows}
use Rattle.share_history.specs.Histories.{batches, revision}
use Rattle.share_history.specs.Whole as histories
use Rattle.share_server.specs.declared.report.LinkReport.{LinkReport}
use Rattle.share_workers.specs.declared.worker.WorkerEnd.TheVariants.{FileFault as lost_edit}
use Rattle.kept_library.specs.declared.fault.FileFault.{FileFault}
use Rattle.kept_library.specs.Faults.{file_line, file_status}
use Rattle.kept_library.specs.Opening.{CountsFault, LeavesRefused, StopsOpening}
use Rattle.command_core.specs.declared.fault.Fault.{Fault}
use Rattle.command_core.specs.declared.fault.Fault.TheVariants as fault
use Rattle.command_core.specs.Faults.{memory_line, fault_line, fault_status}
use Rattle.command_core.specs.Seen.{FilesSeen, InputSeen, OutputSeen, NetSeen, IsUnread, Run}
use Rattle.command_core.specs.Endings.{IsCut, IsWritten}
use Rattle.command_core.specs.Answers.{Writes}
use Rattle.command_core.specs.ReadRecords.{HasReadAs}
use Rattle.serve_command.specs.declared.fault.ServeFault.{ServeFault}
use Rattle.serve_command.specs.declared.fault.ServeFault.TheVariants.{TooManyLists}
use Rattle.serve_command.specs.declared.terms.Serving.{Serving}
use Rattle.share_crew.specs.declared.verdict.Verdict.{Verdict}
use Rattle.serve_command.specs.Terms.{settings_of, places_of, workers_of, roles_of}
use Rattle.share_crew.specs.Lines.{ended_line}
use Rattle.serve_command.specs.Lines.{serving_line}
use Rattle.serve_command.specs.Faults.{serve_line, serve_status, StopsServing}
use Rattle.serve_command.specs.Files.{AreKept, IsOpening}
use Rattle.share_crew.specs.Verdicts.{has_end, verdict_of, verdict_line, verdict_status, with_memory}
use Rattle.share_crew.specs.Listeners.{CountsListenerFaults, HaveLinks}
use Rattle.serve_command.specs.Places.{HasAsked, FailsToOpen}
use Rattle.share_crew.specs.WorkerRuns.{WorkerRun, IsHistoryOf, IsWhole, returns_of}

-- what a run leaves: its status, the history of the share, if it was put under its lock, and the reports of each
-- worker's connections
pub record ServeOutcome : Type 0 where
  pub status : ℕ
  pub history : Option (List Entry)
  pub links : List (List LinkReport)

-- the line of an error was written, or that of out of memory, or the output failed in it
abbrev pub WritesErrorLine : {F : Type 0} → (F → List ℕ) → (F → ℕ) → Fault F → OutputSeen → OutputSeen → ℕ → Type 0
WritesErrorLine line status_of stop before after status = Writes (fault_status status_of stop) (fault_line line stop) before after status ⊎ Writes 9 memory_line before after status

abbrev pub WritesStop : Fault ServeFault → OutputSeen → OutputSeen → ℕ → Type 0
WritesStop stop before after status = WritesErrorLine serve_line serve_status stop before after status

abbrev pub first_line : Serving → (opened : List Entry) → List ℕ
first_line serving opened = serving_line serving.name (revision (batches opened))

-- an allocation failed before the first line, or the output failed in it, or an allocation failed after it
abbrev pub NotAnnounced : (line : List ℕ) → OutputSeen → OutputSeen → ℕ → Type 0
NotAnnounced line before after status =
    Writes 9 memory_line before after status ⊎ ((status ≡ 5) × IsCut before after line) ⊎ Writes 9 (line ++ memory_line) before after status

-- the share was not put under its lock
pub data NotBegun (serving : Serving) (before after : InputSeen) (files files' : FilesSeen) (output output' : OutputSeen) (status : ℕ) : Type 0 where
  -- the input was refused, or its records were; with a file, the lists of the input by itself are no reason to refuse
  -- it
  stopped : (stop : Fault ServeFault) → StopsServing ⊥ before after stop → (stop ≡ fault.Own TooManyLists → serving.file ≡ None) → files' ≡ files → WritesStop stop output output' status
      → NotBegun serving before after files files' output output' status
  -- the file was refused, or the batches of both
  unkept : (edits : List Edit) (path : List ℕ) (stop : Fault FileFault) → HasReadAs edits before after → serving.file ≡ Some path → StopsOpening files.contents path edits stop
      → LeavesRefused files.contents files'.contents path edits stop → CountsFault files.faults files'.faults stop → Grows files.asked files'.asked (path ∷ []) → WritesErrorLine file_line file_status stop output output' status
      → NotBegun serving before after files files' output output' status
  unannounced : (edits : List Edit) (opened : List Entry) → HasReadAs edits before after → IsOpening serving.file files.contents edits opened → AreKept serving.file files files' opened false
      → NotAnnounced (first_line serving opened) output output' status → NotBegun serving before after files files' output output' status

-- what is written after all workers have ended: the last line and that of the verdict; or only the latter, if an
-- allocation for the last line failed
abbrev pub WritesEnd : (ended : List ℕ) → Verdict → OutputSeen → OutputSeen → ℕ → Type 0
WritesEnd ended verdict before after status =
    Writes (verdict_status verdict) (ended ++ verdict_line verdict) before after status
    ⊎ Writes (verdict_status (with_memory verdict)) (verdict_line (with_memory verdict)) before after status

-- The share was served: the worker runs of its workers, the history that they left, and what was written of both. `kept`
-- says what is kept of the history, by whether an edit was lost.
pub record HasServed (serving : Serving) (opened : List Entry) (kept : List Entry → Bool → Type 0) (front : List ℕ) (net net' : NetSeen) (output output' : OutputSeen) (left : ServeOutcome) : Type 0 where
  pub history : List Entry
  pub history_is : left.history ≡ Some history
  pub whole_history : histories.IsWhole history
  -- a worker run for each worker, in order
  pub crew : List (WorkerRun (settings_of serving) opened)
  pub roles : map (λ worker_run. worker_run.role) crew ≡ roles_of serving
  pub links : left.links ≡ map (λ worker_run. worker_run.reports) crew
  -- each saw a prefix of the history, and added the entries of its number
  pub one : IsHistoryOf (workers_of serving) history crew []
  -- each worker had a listener, which was closed
  pub to_come : HaveLinks net.listener_links (map (λ worker_run. worker_run.to_come) crew)
  pub asked : Grows net.asked net'.asked (places_of serving)
  pub written : Grows net.written net'.written (flat_map returns_of crew)
  pub counts : CountsListenerFaults net.faults net'.faults (map (λ worker_run. worker_run.end) crew)
  pub kept_so : kept history (has_end lost_edit (map (λ worker_run. worker_run.end) crew))
  -- the first line was written whole, so a share whose first line fails is not served; what is written at the end
  -- follows
  pub at_line : OutputSeen
  pub line_written : IsWritten output at_line front
  pub told : WritesEnd (ended_line (revision (batches history)) left.links) (verdict_of (map (λ worker_run. worker_run.end) crew)) at_line output' left.status
  -- status 0 says that all connections were served, or that a stop came
  pub whole : left.status ≡ 0 → AllByRecursion (IsWhole history) crew

-- no share was put under a lock
pub record HasNoShare (left : ServeOutcome) : Type 0 where
  pub history : left.history ≡ None
  pub links : left.links ≡ []

-- how a share that was opened ends, and what is kept of its history
pub data ShareEnds (serving : Serving) (opened : List Entry) (kept : List Entry → Bool → Type 0) (net net' : NetSeen) (output output' : OutputSeen) (left : ServeOutcome) : Type 0 where
  -- the listeners were closed before a worker accepted at them
  not_announced : NotAnnounced (first_line serving opened) output output' left.status → HasAsked (places_of serving) net net' → net'.faults ≡ net.faults → kept opened false → HasNoShare left
      → ShareEnds serving opened kept net net' output output' left
  announced : HasServed serving opened kept (first_line serving opened) net net' output output' left → ShareEnds serving opened kept net net' output output' left

pub data ServeEnds (serving : Serving) (told : Run) (left : ServeOutcome) : Type 0 where
  -- an address was not opened, or an allocation failed before
  unopened : (stop : Fault ServeFault) → FailsToOpen serving told.before.around.net told.after.around.net stop → IsUnread told.before.input told.after.input
      → told.after.around.files ≡ told.before.around.files → WritesStop stop told.output_before told.output_after left.status → HasNoShare left → ServeEnds serving told left
  -- the listeners were closed before a worker accepted at them
  unbegun : HasAsked (places_of serving) told.before.around.net told.after.around.net → told.after.around.net.faults ≡ told.before.around.net.faults
      → NotBegun serving told.before.input told.after.input told.before.around.files told.after.around.files told.output_before told.output_after left.status → HasNoShare left
      → ServeEnds serving told left
  served : (edits : List Edit) (opened : List Entry) → HasReadAs edits told.before.input told.after.input → IsOpening serving.file told.before.around.files.contents edits opened
      → HasServed serving opened (AreKept serving.file told.before.around.files told.after.around.files) (first_line serving opened)
      told.before.around.net told.after.around.net told.output_before told.output_after left → ServeEnds serving told left
