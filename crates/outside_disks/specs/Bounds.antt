-- What contracts see of files and disks whose type is a parameter. A bound on a type carries the ghost members of its
-- traits as one record; each record type here has their order. Clauses name an object and its bound by these words.
use Rattle.std.specs.Prelude.{ℕ, List, Option}
use Rattle.outside_disks.specs.Contents.{Contents}
use Rattle.outside_disks.specs.declared.faulted.Faulted as faulted
use Rattle.outside_disks.specs.declared.disk.Disk as disk
use Rattle.outside_disks.specs.declared.files.Files as files

-- of files, at a moment: the names of which `open` was called, the bytes under each name, and the error counter
pub record FilesSeen : Type 0 where
  pub asked : Option (List (List ℕ))
  pub contents : Option Contents
  pub faults : ℕ

abbrev pub FileSets : Type 0 → Type 0
FileSets S = record { faults : S → ℕ; asked : S → Option (List (List ℕ)); contents : S → Option Contents }

abbrev pub files_of : {S : Type 0} → FileSets S → S → FilesSeen
files_of g files = record { asked = g.asked files; contents = g.contents files; faults = g.faults files }

-- .. of the records of a proof, in which the error counter is apart
abbrev pub file_sets : {S D : Type 0} → files.Ghosts S D → faulted.Ghosts S → FileSets S
file_sets g f = record { faults = f.faults; asked = g.asked; contents = g.contents }

abbrev pub Disks : Type 0 → Type 1
Disks D = record { faults : D → ℕ; bytes : D → Option (List ℕ); opened_as : D → Option (List ℕ); images : D → List ℕ → Type 0; clock : D → ℕ; since : D → ℕ → List ℕ → Type 0 }

abbrev pub disks : {D : Type 0} → disk.Ghosts D → faulted.Ghosts D → Disks D
disks g f = record { faults = f.faults; bytes = g.bytes; opened_as = g.opened_as; images = g.images; clock = g.clock; since = g.since }
