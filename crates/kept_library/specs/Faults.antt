-- The lines that a user sees for the errors of an edit file, and the statuses that the program ends with.
use Rattle.std.specs.Prelude.{ℕ, List, [], ◌∷◌, ◌++◌, codes, decimal}
use Rattle.command_core.specs.declared.fault.Fault.{Fault}
use Rattle.command_core.specs.declared.fault.Fault.TheVariants as fault
use Rattle.edit_file.specs.declared.refusal.FileError.{FileError}
use Rattle.edit_file.specs.declared.refusal.FileError.TheVariants as refusal
use Rattle.share_core.specs.declared.share.OpenError.{OpenError}
use Rattle.share_core.specs.declared.share.OpenError.TheVariants as opens
use Rattle.kept_library.specs.declared.fault.FileFault.{FileFault}
use Rattle.kept_library.specs.declared.fault.FileFault.TheVariants.{NotEditFile, Failed, TooManyEdits, TooManyLists}

-- a call on a file failed
abbrev pub failed_line : List ℕ
failed_line = codes "file failed" ++ 10 ∷ []

abbrev pub failed_status : ℕ
failed_status = 10

abbrev pub file_line : FileFault → List ℕ
file_line (NotEditFile at) = codes "file: not an edit file at " ++ decimal at ++ 10 ∷ []
file_line Failed = failed_line
file_line TooManyEdits = codes "limit: library" ++ 10 ∷ []
file_line TooManyLists = codes "limit: library" ++ 10 ∷ []

abbrev pub file_status : FileFault → ℕ
file_status (NotEditFile at) = 3
file_status Failed = failed_status
file_status TooManyEdits = 8
file_status TooManyLists = 8

-- the command's errors if the file, or the share, is refused
abbrev pub file_fault : FileError → Fault FileFault
file_fault (refusal.NotEditFile at) = fault.Own (NotEditFile at)
file_fault refusal.Failed = fault.Own Failed
file_fault refusal.Memory = fault.Memory

abbrev pub open_fault : OpenError → Fault FileFault
open_fault opens.Edits = fault.Own TooManyEdits
open_fault opens.Lists = fault.Own TooManyLists
open_fault opens.Memory = fault.Memory
