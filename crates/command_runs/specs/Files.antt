-- Runs of `serve` with a file, one after another. The premises are what is told: the runs, and the contents of the files
-- before the first of them.
use Rattle.std.specs.Prelude.{◌≡◌, ℕ, List, Option, Some}
use Rattle.item_model.specs.declared.changes.Edit.{Edit}
use Rattle.item_model.specs.declared.changes.Entry.{Entry}
use Rattle.outside_net.specs.Places.{Contents}
use Rattle.edit_file.specs.Standing.{FileStands}
use Rattle.kept_library.specs.Opening.{bytes_at}
use Rattle.command_core.specs.Seen.{Run}
use Rattle.serve_command.specs.Laws.{KeepsAll}
use Rattle.chain_meetings.specs.Sequels.{HasAllAcknowledged}
use Rattle.daapshare_words.specs.declared.command.Command.TheVariants.{Net}
use Rattle.daapshare_words.specs.declared.command.NetCommand.TheVariants.{Serve}
use Rattle.daapshare_words.specs.declared.serve.ServeWords.{ServeWords}
use Rattle.command_runs.specs.declared.outcome.Outcome.{Outcome}
use Rattle.command_runs.specs.Left.{serve_outcome_of}
use Rattle.command_runs.specs.Table.{IsRun}

-- However a run ends, its file has the batches that it had before and, if a share was served, then the input's and those
-- that replies acknowledged, in order; and perhaps one more, if an error of files was counted.
abbrev pub RunsKeepTheFile : Type 0
RunsKeepTheFile =
    (w : ServeWords) (path : List ℕ) (told : Run) (served : Outcome) (contents : Contents) (stood : List (List Edit))
    → IsRun (Some (Net (Serve w))) told served → w.file ≡ Some path → told.before.around.files.contents ≡ Some contents → FileStands (bytes_at contents path) stood
    → KeepsAll path told (serve_outcome_of served) stood

-- Some runs with this file, or none, lead from the contents `before` to others: each began with the contents that the
-- one before left, and ended in any way.
pub data RunsOfFile (path : List ℕ) (before : Option Contents) : Option Contents → Type 0 where
  no_run : RunsOfFile path before before
  one_more : (between : Option Contents) (w : ServeWords) (told : Run) (served : Outcome) → RunsOfFile path before between → IsRun (Some (Net (Serve w))) told served
      → w.file ≡ Some path → told.before.around.files.contents ≡ between → RunsOfFile path before told.after.around.files.contents

-- A run left the history `h`, and a later one with the same file the history `h'`. The contents were known at first.
pub record HasLaterRun (told told' : Run) (served : Outcome) (h h' : List Entry) : Type 0 where
  pub path : List ℕ
  pub first : ServeWords
  pub run : IsRun (Some (Net (Serve first))) told served
  pub with_file : first.file ≡ Some path
  pub history_is : served.history ≡ Some h
  pub contents : Contents
  pub known : told.before.around.files.contents ≡ Some contents
  pub between : RunsOfFile path told.after.around.files.contents told'.before.around.files.contents
  pub later : ServeWords
  pub served' : Outcome
  pub run' : IsRun (Some (Net (Serve later))) told' served'
  pub same_file : later.file ≡ Some path
  pub history_is' : served'.history ≡ Some h'

-- All batches that replies of the first run acknowledged are in the history of the later one, each at the same revision.
abbrev pub RunsGoOn : Type 0
RunsGoOn = (told told' : Run) (served : Outcome) (h h' : List Entry) → (r : HasLaterRun told told' served h h') → HasAllAcknowledged r.path told (serve_outcome_of served) h h'
