-- What is under the name of an edit file once its disk is closed.
use Rattle.std.specs.Prelude.{◌≡◌, ◌⊎◌, ℕ, List, [], ◌∷◌, ◌++◌, Option, Some, IfSome}
use Rattle.std.specs.FinMap as finite
use Rattle.item_model.specs.declared.changes.Edit.{Edit}
use Rattle.outside_disks.specs.Bounds.{FileSets}
use Rattle.outside_disks.specs.Contents.{Contents}
use Rattle.outside_disks.specs.declared.disk.Disk as disk
use Rattle.outside_disks.specs.declared.faulted.Faulted as faulted
use Rattle.edit_file.specs.Files.{place_of}
use Rattle.edit_file.specs.Standing.{FileStands}
use Rattle.edit_file.specs.declared.file.EditFile.{EditFile}

-- these bytes are under the name, and those of all other names are unchanged
abbrev pub PutsBytes : (path bytes : List ℕ) → Contents → Option Contents → Type 0
PutsBytes path bytes before now = now ≡ Some (finite.insert before path bytes)

-- bytes that represent the batches are under the name
pub record PutsBatches (path : List ℕ) (bs : List (List Edit)) (before : Contents) (now : Option Contents) : Type 0 where
  pub bytes : List ℕ
  pub stands : FileStands bytes bs
  pub told : PutsBytes path bytes before now

-- .. if the contents were known
abbrev pub LeavesAt : List ℕ → List (List Edit) → Option Contents → Option Contents → Type 0
LeavesAt path bs before now = IfSome before (λ c. PutsBatches path bs c now)

-- .. or these and one more
abbrev pub LeavesOrOneMore : List ℕ → List (List Edit) → Option Contents → Option Contents → Type 0
LeavesOrOneMore path bs before now = LeavesAt path bs before now ⊎ ((batch : List Edit) × LeavesAt path (bs ++ batch ∷ []) before now)

module _ {S : Type 0} (g : FileSets S) where
  -- afterwards the files have, under the name, bytes that represent the batches, if their contents were known
  abbrev pub StoresBatches : S → S → List ℕ → List (List Edit) → Type 0
  StoresBatches old new path bs = LeavesAt path bs (g.contents old) (g.contents new)

  -- .. or these and one more
  abbrev pub StoresOrOneMore : S → S → List ℕ → List (List Edit) → Type 0
  StoresOrOneMore old new path bs = LeavesOrOneMore path bs (g.contents old) (g.contents new)

  -- the file has the name among the files, if their contents are known
  abbrev pub IsNamedIn : {D : Type 0} (d : disk.Ghosts D) {f : faulted.Ghosts D} → S → EditFile D d f → List ℕ → Type 0
  IsNamedIn d files file path = IfSome (g.contents files) (λ _. place_of d file ≡ Some path)
