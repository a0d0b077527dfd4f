-- What opening a file finds and returns.
use Rattle.std.specs.Prelude.{◌≡◌, ◌≢◌, ℕ, ◌+◌, List, ◌∷◌, ◌++◌, length, take, Bool, MatchBool, Result, Ok, Err, MatchResult}
use Rattle.item_model.specs.declared.changes.Edit.{Edit}
use Rattle.outside_disks.specs.Counts.{Rose}
use Rattle.outside_disks.specs.declared.disk.Disk.{Ghosts}
use Rattle.outside_disks.specs.declared.faulted.Faulted as faulted
use Rattle.edit_file.specs.Files.{disk_of}
use Rattle.edit_file.specs.Moments.{IsQuiet}
use Rattle.edit_file.specs.Standing.{opened, signature, AreFrames, IsMade}
use Rattle.edit_file.specs.declared.file.EditFile.{EditFile}
use Rattle.edit_file.specs.declared.refusal.FileError.{FileError}
use Rattle.edit_file.specs.declared.refusal.FileError.TheVariants as refusal

-- the bytes are a finished file of the batches, with its closing byte at the offset
pub record ClosesAt (bytes : List ℕ) (place : ℕ) (batches : List (List Edit)) : Type 0 where
  pub made : IsMade bytes batches
  pub at : place ≡ 9 + length made.frames

-- a head and the frames of the batches were read, up to an offset
pub record HasRead (bytes : List ℕ) (place : ℕ) (batches : List (List Edit)) : Type 0 where
  pub frames : List ℕ
  pub rest : List ℕ
  pub bytes_are : bytes ≡ opened ∷ signature ++ frames ++ rest
  pub framed : AreFrames frames batches
  pub at : place ≡ 9 + length frames

-- the error counter increases exactly if the error is `Failed`
abbrev pub CountsRefusal : ℕ → ℕ → FileError → Type 0
CountsRefusal before now (refusal.NotEditFile at) = now ≡ before
CountsRefusal before now refusal.Failed = Rose before now
CountsRefusal before now refusal.Memory = now ≡ before

abbrev pub CountsOpening : {T : Type 0} → ℕ → ℕ → Result T FileError → Type 0
CountsOpening before now result = MatchResult result (λ _. now ≡ before) (CountsRefusal before now)

abbrev pub CountsOpenError : {T D : Type 0} → ℕ → ℕ → Result T (FileError × D) → Type 0
CountsOpenError before now result = MatchResult result (λ _. now ≡ before) (λ e. CountsRefusal before now e.0)

-- the bytes begin with the open byte and the signature, or they do not
abbrev pub HasHead : List ℕ → Bool → Type 0
HasHead bytes it = MatchBool it ((rest : List ℕ) × (bytes ≡ opened ∷ signature ++ rest)) (take 9 bytes ≢ opened ∷ signature)

module _ {D : Type 0} (g : Ghosts D) where
  -- the same bytes, and no new image
  abbrev pub IsSameDisk : D → D → Type 0
  IsSameDisk old new = (g.bytes new ≡ g.bytes old) × IsQuiet g old new

  -- an error leaves the disk the same, unless the disk failed
  abbrev pub LeavesRefused : {T : Type 0} → D → D → Result T FileError → Type 0
  LeavesRefused old new result = (error : FileError) → result ≡ Err error → error ≢ refusal.Failed → IsSameDisk old new

module _ {D : Type 0} (g : Ghosts D) {f : faulted.Ghosts D} where
  -- the disk, in the file or returned
  abbrev pub disk_after : {T E : Type 0} → Result (EditFile D g f × T) (E × D) → D
  disk_after (Ok opening) = disk_of g opening.0
  disk_after (Err refused) = refused.1
