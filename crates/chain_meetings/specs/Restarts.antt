-- Two runs of `serve` with one file, of which the second began with the contents that the first left.
use Rattle.std.specs.Prelude.{◌≡◌, ◌⊎◌, ◌≤◌, ◌<◌, ℕ, List, [], ◌∷◌, ◌++◌, Bool, true, false, MatchBool, Some}
use Rattle.item_model.specs.declared.changes.Edit.{Edit}
use Rattle.item_model.specs.declared.changes.Entry.{Entry}
use Rattle.outside_net.specs.Counts.{Rose}
use Rattle.outside_net.specs.Places.{Contents}
use Rattle.share_history.specs.Histories.{batches, revision, up_to}
use Rattle.share_history.specs.Mirror.{mirrored}
use Rattle.share_core.specs.Opened.{if_filled, opened_with}
use Rattle.mirror_core.specs.Mirrored.{Mirrored}
use Rattle.share_meetings.specs.Mirrors.{HeldBefore}
use Rattle.command_core.specs.ReadRecords.{HasReadAs}
use Rattle.command_core.specs.Seen.{Run}
use Rattle.serve_command.specs.declared.terms.Serving.{Serving}
use Rattle.serve_command.specs.Runs.{ServeOutcome, ServeEnds}
use Rattle.share_meetings.specs.Meetings.{IsServedOn}

-- Two runs left the histories `h` and `h'`, however each ended. The contents of the files were known.
pub record IsRestart (told told' : Run) (h h' : List Entry) : Type 0 where
  pub path : List ℕ
  pub first : Serving
  pub left : ServeOutcome
  pub ends : ServeEnds first told left
  pub with_file : first.file ≡ Some path
  pub history_is : left.history ≡ Some h
  pub contents : Contents
  pub known : told.before.around.files.contents ≡ Some contents
  -- the second run found what the first left
  pub found : told'.before.around.files.contents ≡ told.after.around.files.contents
  pub second : Serving
  pub left' : ServeOutcome
  pub ends' : ServeEnds second told' left'
  pub same_file : second.file ≡ Some path
  pub history_is' : left'.history ≡ Some h'

-- The batches that a file kept of these: all. If the last edit was lost, all before it, and there may be one more.
abbrev pub Keeps : (lost : Bool) → (bs kept : List (List Edit)) → Type 0
Keeps false bs kept = kept ≡ bs
Keeps true bs kept =
    (earlier : List (List Edit)) × (last : List Edit) × (bs ≡ earlier ++ last ∷ []) × ((kept ≡ earlier) ⊎ ((more : List Edit) × (kept ≡ earlier ++ more ∷ [])))

-- The second history begins with an entry for each batch that the file kept of the first, and for the batch of the
-- second input, if that has edits. An edit of the first run was lost exactly if an error of files was counted.
pub record GoesOnFrom (told told' : Run) (h h' : List Entry) : Type 0 where
  pub lost : Bool
  pub counts : MatchBool lost (Rose told.before.around.files.faults told.after.around.files.faults) (told.after.around.files.faults ≡ told.before.around.files.faults)
  pub kept : List (List Edit)
  pub keeps : Keeps lost (batches h) kept
  pub edits : List Edit
  pub read : HasReadAs edits told'.before.input told'.after.input
  pub later : List Entry
  pub begins : h' ≡ opened_with (kept ++ if_filled edits) ++ later

-- ---- laws

abbrev pub RestartsGoOn : Type 0
RestartsGoOn = (told told' : Run) (h h' : List Entry) → IsRestart told told' h h' → GoesOnFrom told told' h h'

-- A revision of the first run, but not that of a lost edit.
abbrev pub IsOfFirst : {told told' : Run} {h h' : List Entry} → GoesOnFrom told told' h h' → ℕ → Type 0
IsOfFirst {h = h} g v = (v ≤ revision (batches h)) × (g.lost ≡ true → v < revision (batches h))

-- Each such revision has the same batches in the second run.
abbrev pub RestartsKeepRevisions : Type 0
RestartsKeepRevisions =
    (told told' : Run) (h h' : List Entry) (v : ℕ) → (g : GoesOnFrom told told' h h') → IsOfFirst g v → up_to (batches h') v ≡ up_to (batches h) v

-- A mirror that held the rows of such a revision held what the second share had before each request of a connection.
-- So it gets the changes since that revision, or all rows, as a mirror does that never lost its share.
abbrev pub RestartsKeepMirrors : Type 0
RestartsKeepMirrors =
    (told told' : Run) (h h' : List Entry) → (r : IsRestart told told' h h') → (g : GoesOnFrom told told' h h')
    × ((m : Mirrored) (v : ℕ) (input output : List ℕ) → IsOfFirst g v → m.held ≡ mirrored (up_to (batches h) v) m.target m.query m.meta
    → (on : IsServedOn told'.before.around.net told'.after.around.net r.left'.links input output) → HeldBefore m h' on.report.served)
