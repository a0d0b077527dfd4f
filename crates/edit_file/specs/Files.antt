-- What an open edit file has, as a relation to a list of batches, because the batches themselves are not kept in
-- memory.
use Rattle.std.specs.Prelude.{◌≡◌, ◌≢◌, ◌⊎◌, ℕ, List, [], ◌∷◌, ◌++◌, length, Bool, MatchBool, Option, None, is_some, if◌then◌else◌, IfSome}
use Rattle.item_model.specs.declared.changes.Edit.{Edit}
use Rattle.outside_disks.specs.declared.disk.Disk.{Ghosts}
use Rattle.outside_disks.specs.declared.faulted.Faulted as faulted
use Rattle.edit_file.specs.Moments.{Holds, LeavesOnly}
use Rattle.edit_file.specs.Standing.{opened, signature, AreFrames, FileStands}
use Rattle.edit_file.specs.declared.file.EditFile.{EditFile}

-- the bytes are a head, the frames of the batches, and one closing byte at the end, at an offset
pub record AtRest (bytes : List ℕ) (closing : ℕ) (batches : List (List Edit)) : Type 0 where
  pub frames : List ℕ
  pub shut : ℕ
  pub framed : AreFrames frames batches
  pub bytes_are : bytes ≡ (opened ∷ signature ++ frames) ++ shut ∷ []
  pub place : length (opened ∷ signature ++ frames) ≡ closing
  pub closed : shut ≢ opened

-- the bytes represent the batches, or these and one more
abbrev pub StandsForOrOneMore : List (List Edit) → List ℕ → Type 0
StandsForOrOneMore batches bytes = FileStands bytes batches ⊎ ((batch : List Edit) × FileStands bytes (batches ++ batch ∷ []))

-- the bytes represent the batches, or these and the given one
abbrev pub StandsWithOrWithout : List (List Edit) → List Edit → List ℕ → Type 0
StandsWithOrWithout batches batch bytes = FileStands bytes batches ⊎ FileStands bytes (batches ++ batch ∷ [])

module _ {D : Type 0} (g : Ghosts D) {f : faulted.Ghosts D} where
  abbrev pub disk_of : EditFile D g f → D
  disk_of file = file.disk

  -- the bytes of its disk, if they are known
  abbrev pub bytes_of : EditFile D g f → Option (List ℕ)
  bytes_of file = g.bytes file.disk

  -- the name by which its disk was opened
  abbrev pub name_of : EditFile D g f → Option (List ℕ)
  name_of file = g.opened_as file.disk

  -- the error counter of its disk
  abbrev pub faults_of : EditFile D g f → ℕ
  faults_of file = f.faults file.disk

  -- every image that a crash may leave of the file, now or at a moment since it was as before, has the property `P`
  abbrev pub CrashLeavesOnly : EditFile D g f → EditFile D g f → (List ℕ → Type 0) → Type 0
  CrashLeavesOnly old new P = LeavesOnly g old.disk new.disk P

  -- the name by which the disk was opened, if its bytes are known
  abbrev pub place_of : EditFile D g f → Option (List ℕ)
  place_of file = if is_some (g.bytes file.disk) then g.opened_as file.disk else None

  abbrev pub is_broken : EditFile D g f → Bool
  is_broken file = file.is_broken

  -- a sound file is at rest with the batches, and a crash leaves nothing else; of a broken one every image represents them, or one more
  abbrev pub HasBatches : EditFile D g f → List (List Edit) → Type 0
  HasBatches file batches = MatchBool file.is_broken
      (IfSome (g.bytes file.disk) (λ _. (image : List ℕ) → g.images file.disk image → StandsForOrOneMore batches image))
      (IfSome (g.bytes file.disk) (λ bytes. AtRest bytes file.closing batches × Holds g file.disk bytes))
