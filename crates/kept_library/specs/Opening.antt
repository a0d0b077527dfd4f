-- A share that is opened with the batches of a file and with one more batch, which the file then keeps too.
use Rattle.std.specs.Prelude.{◌≡◌, ◌⊎◌, ℕ, ◌<◌, ◌≤◌, List, [], ◌++◌, length, false, Option, Some, IfSome, unwrap_or, Result, MatchResult}
use Rattle.std.specs.FinMap as finite
use Rattle.item_model.specs.declared.changes.Edit.{Edit}
use Rattle.outside_disks.specs.Contents.{Contents}
use Rattle.outside_disks.specs.Counts.{Rose}
use Rattle.outside_disks.specs.declared.disk.Disk.{Ghosts}
use Rattle.outside_disks.specs.declared.faulted.Faulted as faulted
use Rattle.share_history.specs.Histories.{batches, edits}
use Rattle.share_history.specs.Numbers.{most_edits}
use Rattle.share_replies.specs.Answers.{Shared}
use Rattle.share_replies.specs.Settings.{Settings}
use Rattle.share_core.specs.Opened.{opened_with, if_filled, LeaveFewLists, LeaveManyLists}
use Rattle.edit_file.specs.Files.{HasBatches, disk_of, is_broken, place_of}
use Rattle.edit_file.specs.Standing.{BreaksAt, FileStands}
use Rattle.edit_file.specs.declared.file.EditFile.{EditFile}
use Rattle.command_core.specs.declared.fault.Fault.{Fault}
use Rattle.command_core.specs.declared.fault.Fault.TheVariants as fault
use Rattle.kept_library.specs.Closing.{LeavesAt, PutsBytes}
use Rattle.kept_library.specs.declared.fault.FileFault.{FileFault}
use Rattle.kept_library.specs.declared.fault.FileFault.TheVariants.{NotEditFile, Failed, TooManyEdits, TooManyLists}
use Rattle.kept_library.specs.declared.opening.KeptLibrary.{KeptLibrary}

-- the bytes under a name; a file that does not exist has none
abbrev pub bytes_at : Contents → List ℕ → List ℕ
bytes_at contents path = unwrap_or (finite.get contents path) []

-- the bytes under the name represent the batches, if they are known
abbrev pub StandsAt : Option Contents → List ℕ → List (List Edit) → Type 0
StandsAt contents path bs = IfSome contents (λ c. FileStands (bytes_at c path) bs)

abbrev pub share_of : Settings → List (List Edit) → Shared
share_of settings bs = record { settings = settings; history = opened_with bs; marks = [] }

-- the batches are within the limits of a share
pub record AreFew (bs : List (List Edit)) : Type 0 where
  pub few_edits : length (edits bs) ≤ most_edits
  pub few_lists : LeaveFewLists bs

module _ {D : Type 0} (g : Ghosts D) {f : faulted.Ghosts D} where
  -- the share begins with the batches that the file represented and then `first`, within its limits, and the file keeps
  -- the batches of the share's history
  pub record HasOpened (contents : Option Contents) (path : List ℕ) (settings : Settings) (first : List Edit) (kept : KeptLibrary D g f) : Type 0 where
    pub before : List (List Edit)
    pub stood : StandsAt contents path before
    pub share_is : kept.share ≡ share_of settings (before ++ if_filled first)
    pub few : AreFew (before ++ if_filled first)
    pub keeps : HasBatches g kept.file (batches kept.share.history)
    pub sound : is_broken g kept.file ≡ false
    pub place : IfSome contents (λ _. place_of g kept.file ≡ Some path)
    pub faultless : f.faults (disk_of g kept.file) ≡ 0

-- the bytes represent the batches, or these and then `first`
abbrev pub StandsWithFirst : List (List Edit) → (first : List Edit) → List ℕ → Type 0
StandsWithFirst bs first bytes = FileStands bytes bs ⊎ FileStands bytes (bs ++ if_filled first)

module _ {D : Type 0} (g : Ghosts D) {f : faulted.Ghosts D} where
  -- the append of `first` failed: if the file had the batches, a crash leaves these, or these and then `first`
  abbrev pub LosesFirst : (old new : EditFile D g f) → List (List Edit) → (first : List Edit) → Type 0
  LosesFirst old new bs first =
      HasBatches g old bs → IfSome (g.bytes (disk_of g old)) (λ _. (image : List ℕ) → g.images (disk_of g new) image → StandsWithFirst bs first image)

-- why the batches open no share; an allocation may fail at any time
abbrev pub StopsShare : List (List Edit) → Fault FileFault → Type 0
StopsShare bs (fault.Own (NotEditFile at)) = ⊥
StopsShare bs (fault.Own Failed) = Unit {0}
StopsShare bs (fault.Own TooManyEdits) = most_edits < length (edits bs)
StopsShare bs (fault.Own TooManyLists) = LeaveManyLists bs
StopsShare bs fault.Read = ⊥
StopsShare bs fault.Memory = Unit {0}

-- the batches that the file represented, with `first`, pass a limit of a share
pub record AreRefused (contents : Option Contents) (path : List ℕ) (first : List Edit) (TooMany : List (List Edit) → Type 0) : Type 0 where
  pub before : List (List Edit)
  pub stood : StandsAt contents path before
  pub many : TooMany (before ++ if_filled first)

-- why no share was opened; an allocation may fail at any time
abbrev pub StopsOpening : Option Contents → List ℕ → List Edit → Fault FileFault → Type 0
StopsOpening contents path first (fault.Own (NotEditFile at)) = IfSome contents (λ c. BreaksAt (bytes_at c path) at)
StopsOpening contents path first (fault.Own Failed) = Unit {0}
StopsOpening contents path first (fault.Own TooManyEdits) = AreRefused contents path first (λ bs. most_edits < length (edits bs))
StopsOpening contents path first (fault.Own TooManyLists) = AreRefused contents path first LeaveManyLists
StopsOpening contents path first fault.Read = ⊥
StopsOpening contents path first fault.Memory = Unit {0}

-- the file represented some batches, and still represents them
pub record LeavesBatches (path : List ℕ) (before now : Option Contents) : Type 0 where
  pub batches : List (List Edit)
  pub stood : StandsAt before path batches
  pub left : LeavesAt path batches before now

-- whatever batches the file represented, it still represents
abbrev pub LeavesStanding : List ℕ → (before now : Option Contents) → Type 0
LeavesStanding path before now = (bs : List (List Edit)) → StandsAt before path bs → LeavesAt path bs before now

-- .. or these and `first`, whose append failed
abbrev pub LeavesFirst : List ℕ → (first : List Edit) → (before now : Option Contents) → Type 0
LeavesFirst path first before now =
    (bs : List (List Edit)) → StandsAt before path bs → LeavesAt path bs before now ⊎ LeavesAt path (bs ++ if_filled first) before now

-- what is under the file's name after a refusal: the same bytes, or the same batches; if a call failed, perhaps these
-- and then `first`
abbrev pub LeavesRefused : (before now : Option Contents) → List ℕ → (first : List Edit) → Fault FileFault → Type 0
LeavesRefused before now path first (fault.Own (NotEditFile at)) = IfSome before (λ c. PutsBytes path (bytes_at c path) c now)
LeavesRefused before now path first (fault.Own Failed) = (now ≡ before) ⊎ LeavesFirst path first before now
LeavesRefused before now path first (fault.Own TooManyEdits) = LeavesBatches path before now
LeavesRefused before now path first (fault.Own TooManyLists) = LeavesBatches path before now
LeavesRefused before now path first fault.Read = Unit {0}
LeavesRefused before now path first fault.Memory = LeavesStanding path before now

-- the error counter rises exactly if the file failed
abbrev pub CountsFault : ℕ → ℕ → Fault FileFault → Type 0
CountsFault before now (fault.Own (NotEditFile at)) = now ≡ before
CountsFault before now (fault.Own Failed) = Rose before now
CountsFault before now (fault.Own TooManyEdits) = now ≡ before
CountsFault before now (fault.Own TooManyLists) = now ≡ before
CountsFault before now fault.Read = now ≡ before
CountsFault before now fault.Memory = now ≡ before

abbrev pub CountsStop : {T : Type 0} → ℕ → ℕ → Result T (Fault FileFault) → Type 0
CountsStop before now result = MatchResult result (λ _. now ≡ before) (CountsFault before now)
