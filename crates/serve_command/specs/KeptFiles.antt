-- The content of a file that kept the edits of a share.
use Rattle.std.specs.Prelude.{◌≡◌, ℕ, List, Bool, MatchBool, Option}
use Rattle.item_model.specs.declared.changes.Entry.{Entry}
use Rattle.outside_disks.specs.Counts.{Rose}
use Rattle.outside_disks.specs.declared.disk.Disk.{Ghosts}
use Rattle.outside_disks.specs.declared.faulted.Faulted as faulted
use Rattle.share_history.specs.Histories.{batches}
use Rattle.share_workers.specs.Keepers.{KeepsBut}
use Rattle.edit_file.specs.Files.{HasBatches, disk_of, is_broken, place_of}
use Rattle.edit_file.specs.declared.file.EditFile.{EditFile}

module _ {D : Type 0} (g : Ghosts D) {f : faulted.Ghosts D} where
  -- it has the batches of the history, under its name, except for a last one that was lost; its disk has counted an
  -- error exactly if one was lost
  pub record IsKeptIn (place : Option (List ℕ)) (faults : ℕ) (file : EditFile D g f) (history : List Entry) (lost : Bool) : Type 0 where
    pub is_broken_so : is_broken g file ≡ lost
    pub counts : MatchBool lost (Rose faults (f.faults (disk_of g file))) (f.faults (disk_of g file) ≡ faults)
    pub keeps : KeepsBut lost (λ bs. HasBatches g file bs × (place_of g file ≡ place)) (batches history)
