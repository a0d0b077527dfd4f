-- Theorems about the definitions, for all bytes.
use Rattle.std.specs.Prelude.{◌≡◌, ℕ, List}
use Rattle.item_model.specs.declared.changes.Edit.{Edit}
use Rattle.edit_file.specs.Standing.{FileStands, BreaksAt}

-- bytes represent at most one list of batches
abbrev pub FilesStandOnce : Type 0
FilesStandOnce = (bytes : List ℕ) (a b : List (List Edit)) → FileStands bytes a → FileStands bytes b → a ≡ b

-- bytes that break somewhere represent none
abbrev pub BrokenFilesStandForNone : Type 0
BrokenFilesStandForNone = (bytes : List ℕ) (at : ℕ) (batches : List (List Edit)) → BreaksAt bytes at → FileStands bytes batches → ⊥
