-- What follows from how runs of `serve` end.
use Rattle.std.specs.Prelude.{◌≡◌, ◌⊎◌, ◌≤◌, ℕ, List, [], ◌∷◌, ◌++◌, length, true, Contains, Option, Some, None}
use Rattle.item_model.specs.declared.changes.Edit.{Edit}
use Rattle.item_model.specs.declared.changes.Entry.{Entry}
use Rattle.outside_net.specs.Counts.{Rose}
use Rattle.outside_net.specs.Places.{Contents}
use Rattle.share_history.specs.Histories.{batches, edits}
use Rattle.share_history.specs.Limits.{has_few_lists}
use Rattle.share_history.specs.Numbers.{most_edits}
use Rattle.share_core.specs.Opened.{if_filled, LeaveFewLists}
use Rattle.share_server.specs.declared.report.LinkReport.{LinkReport}
use Rattle.share_server.specs.Served.{added_entries}
use Rattle.share_workers.specs.Works.{all_served}
use Rattle.edit_file.specs.Standing.{FileStands}
use Rattle.kept_library.specs.Closing.{LeavesAt}
use Rattle.kept_library.specs.Opening.{bytes_at}
use Rattle.command_core.specs.Seen.{Run}
use Rattle.command_core.specs.ReadRecords.{HasReadAs, ReadsAs}
use Rattle.serve_command.specs.declared.terms.Serving.{Serving}
use Rattle.serve_command.specs.Runs.{ServeOutcome, ServeEnds}

-- some worker served as many connections, or as many requests, as its limit allows
pub record IsSpent (workers : List (List LinkReport)) : Type 0 where
  pub reports : List LinkReport
  pub stands : Contains workers reports
  pub most : (length reports ≡ 65536) ⊎ (length (all_served reports) ≡ 262144)

-- the bytes under a name represent batches; these and then the one of the input are within the limits of a share
pub record StandsForShare (contents : Option Contents) (path : List ℕ) (first : List Edit) : Type 0 where
  pub told : Contents
  pub is : contents ≡ Some told
  pub stood : List (List Edit)
  pub stands : FileStands (bytes_at told path) stood
  pub few_edits : length (edits (stood ++ if_filled first)) ≤ most_edits
  pub few_lists : LeaveFewLists (stood ++ if_filled first)

-- a share may begin with the batches of its file, if it has one, and then the input's
abbrev pub IsOpened : Option (List ℕ) → Option Contents → List Edit → Type 0
IsOpened None contents first = has_few_lists [] first ≡ true
IsOpened (Some path) contents first = StandsForShare contents path first

-- If nothing outside fails and the input is known, records that are the first batch of a share end with status 0,
-- except for out of memory and for a worker at its limit.
abbrev pub RunsAreDecided : Type 0
RunsAreDecided =
    (serving : Serving) (told : Run) (left : ServeOutcome) (input : List ℕ) (first : List Edit) → ServeEnds serving told left
    → told.before.input.left ≡ Some input → ReadsAs first input → IsOpened serving.file told.before.around.files.contents first
    → ¬ (Rose told.before.input.faults told.after.input.faults) → ¬ (Rose told.output_before.faults told.output_after.faults)
    → ¬ (Rose told.before.around.net.faults told.after.around.net.faults) → ¬ (Rose told.before.around.files.faults told.after.around.files.faults)
    → (left.status ≡ 0) ⊎ ((left.status ≡ 9) ⊎ ((left.status ≡ 8) × IsSpent left.links))

-- what status 0 says of a file: no error of files was counted, and the bytes under its name represent the batches of
-- the history
pub record LeavesFile (path : List ℕ) (told : Run) (left : ServeOutcome) : Type 0 where
  pub faultless : told.after.around.files.faults ≡ told.before.around.files.faults
  pub history : List Entry
  pub history_is : left.history ≡ Some history
  pub left_at : LeavesAt path (batches history) told.before.around.files.contents told.after.around.files.contents

abbrev pub SuccessLeavesTheFile : Type 0
SuccessLeavesTheFile = (serving : Serving) (path : List ℕ) (told : Run) (left : ServeOutcome) → ServeEnds serving told left → left.status ≡ 0 → serving.file ≡ Some path → LeavesFile path told left

-- the status of a failed file call comes only if the error counter of the files rose
abbrev pub FileFaultsAreCounted : Type 0
FileFaultsAreCounted = (serving : Serving) (told : Run) (left : ServeOutcome) → ServeEnds serving told left → left.status ≡ 10 → Rose told.before.around.files.faults told.after.around.files.faults

-- ---- what a file has after a run, however it ended

-- the contents are known, and the bytes under the name represent the batches
pub record HasUnder (path : List ℕ) (contents : Option Contents) (bs : List (List Edit)) : Type 0 where
  pub told : Contents
  pub is : contents ≡ Some told
  pub stands : FileStands (bytes_at told path) bs

-- the batches that replies on these connections acknowledged, in order
abbrev pub acknowledged_batches : List Entry → List LinkReport → List (List Edit)
acknowledged_batches history reports = batches (added_entries history (all_served reports))

-- the batches are the input's, and then those that the worker of the editors acknowledged; and perhaps one more, only if
-- the error counter of the files rose. The history has those that stood before, the same, and perhaps one that was lost
pub record HasAcknowledged (told : Run) (stood : List (List Edit)) (history : List Entry) (links : List (List LinkReport)) (bs : List (List Edit)) : Type 0 where
  pub edits : List Edit
  pub read : HasReadAs edits told.before.input told.after.input
  pub players : List (List LinkReport)
  pub editor : List LinkReport
  pub links_are : links ≡ players ++ editor ∷ []
  pub last : List (List Edit)
  pub are : bs ≡ if_filled edits ++ (acknowledged_batches history editor ++ last)
  pub few : length last ≤ 1
  pub faultless : (last ≡ []) ⊎ Rose told.before.around.files.faults told.after.around.files.faults
  pub lost : List (List Edit)
  pub few_lost : length lost ≤ 1
  pub made : batches history ≡ stood ++ (if_filled edits ++ (acknowledged_batches history editor ++ lost))

-- the file represents the batches that it represented, and then more: those of the share, if it was put under its lock;
-- else none, or the input's
pub record KeepsAll (path : List ℕ) (told : Run) (left : ServeOutcome) (stood : List (List Edit)) : Type 0 where
  pub more : List (List Edit)
  pub under : HasUnder path told.after.around.files.contents (stood ++ more)
  pub unserved : left.history ≡ None → (more ≡ []) ⊎ ((edits : List Edit) × HasReadAs edits told.before.input told.after.input × (more ≡ if_filled edits))
  pub served : (history : List Entry) → left.history ≡ Some history → HasAcknowledged told stood history left.links more

-- However a run ends, nothing is lost that its file had before, or that a reply acknowledged. A share with a file has one
-- editor.
abbrev pub AcknowledgedBatchesStay : Type 0
AcknowledgedBatchesStay =
    (serving : Serving) (path : List ℕ) (told : Run) (left : ServeOutcome) (contents : Contents) (stood : List (List Edit)) → ServeEnds serving told left
    → serving.file ≡ Some path → serving.editors ≡ 1 → told.before.around.files.contents ≡ Some contents → FileStands (bytes_at contents path) stood
    → KeepsAll path told left stood
