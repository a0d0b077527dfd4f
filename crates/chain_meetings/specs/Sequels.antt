-- Runs of `serve` with one file, one after another, as many as there are.
use Rattle.std.specs.Prelude.{◌≡◌, ◌≤◌, ℕ, List, [], ◌∷◌, ◌++◌, length, Option, Some}
use Rattle.item_model.specs.declared.changes.Edit.{Edit}
use Rattle.item_model.specs.declared.changes.Entry.{Entry}
use Rattle.outside_net.specs.Places.{Contents}
use Rattle.share_core.specs.Opened.{if_filled}
use Rattle.share_history.specs.Histories.{batches}
use Rattle.share_server.specs.declared.report.LinkReport.{LinkReport}
use Rattle.kept_library.specs.Opening.{StandsAt}
use Rattle.command_core.specs.ReadRecords.{HasReadAs}
use Rattle.command_core.specs.Seen.{Run}
use Rattle.serve_command.specs.declared.terms.Serving.{Serving}
use Rattle.serve_command.specs.Laws.{acknowledged_batches}
use Rattle.serve_command.specs.Runs.{ServeOutcome, ServeEnds}

-- Some runs, or none, lead from the contents `before` to others: each began with the contents that the one before left,
-- and ended in any way. A share with a file has one editor.
pub data RunsLead (path : List ℕ) (before : Option Contents) : Option Contents → Type 0 where
  no_run : RunsLead path before before
  one_more : (between : Option Contents) (serving : Serving) (told : Run) (left : ServeOutcome) → RunsLead path before between → ServeEnds serving told left → serving.file ≡ Some path
      → serving.editors ≡ 1 → told.before.around.files.contents ≡ between → RunsLead path before told.after.around.files.contents

-- A run left the history `h`, and a later one with the same file the history `h'`. The contents were known at first.
pub record IsLaterRun (told told' : Run) (left : ServeOutcome) (h h' : List Entry) : Type 0 where
  pub path : List ℕ
  pub first : Serving
  pub ends : ServeEnds first told left
  pub with_file : first.file ≡ Some path
  pub one_editor : first.editors ≡ 1
  pub history_is : left.history ≡ Some h
  pub contents : Contents
  pub known : told.before.around.files.contents ≡ Some contents
  pub between : RunsLead path told.after.around.files.contents told'.before.around.files.contents
  pub later : Serving
  pub left' : ServeOutcome
  pub ends' : ServeEnds later told' left'
  pub same_file : later.file ≡ Some path
  pub history_is' : left'.history ≡ Some h'

-- Both histories begin with the same batches: those that the file represented before the first run, that of its input,
-- and then all that its replies acknowledged. So each of these has the same revision in both.
pub record HasAllAcknowledged (path : List ℕ) (told : Run) (left : ServeOutcome) (h h' : List Entry) : Type 0 where
  pub stood : List (List Edit)
  pub stands : StandsAt told.before.around.files.contents path stood
  pub edits : List Edit
  pub read : HasReadAs edits told.before.input told.after.input
  pub players : List (List LinkReport)
  pub editor : List LinkReport
  pub links_are : left.links ≡ players ++ editor ∷ []
  -- an edit that no reply acknowledged
  pub lost : List (List Edit)
  pub few : length lost ≤ 1
  pub made : batches h ≡ stood ++ (if_filled edits ++ (acknowledged_batches h editor ++ lost))
  pub more : List (List Edit)
  pub goes_on : batches h' ≡ stood ++ (if_filled edits ++ (acknowledged_batches h editor ++ more))

-- ---- law

abbrev pub AcknowledgedBatchesGoOn : Type 0
AcknowledgedBatchesGoOn = (told told' : Run) (left : ServeOutcome) (h h' : List Entry) → (r : IsLaterRun told told' left h h') → HasAllAcknowledged r.path told left h h'
