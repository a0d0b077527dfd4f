-- What a run of disk calls may leave of the file if a crash interrupts it, at each moment of the run.
use Rattle.std.specs.Prelude.{◌≡◌, ◌⊎◌, ℕ, ◌≤◌, List, OnOk, Result, Some, is_some}
use Rattle.outside_disks.specs.declared.disk.Disk.{Ghosts}

module _ {D : Type 0} (g : Ghosts D) where
  -- an image of the disk as it was, or what a step makes of one
  abbrev pub MayFollow : (List ℕ → List ℕ → Type 0) → D → List ℕ → Type 0
  MayFollow step old image = g.images old image ⊎ ((earlier : List ℕ) × g.images old earlier × step earlier image)

  -- one change was made or interrupted: a crash during it leaves an image from before, or what the step makes of one
  pub record Does (step : List ℕ → List ℕ → Type 0) (old new : D) : Type 0 where
    pub later : g.clock old ≤ g.clock new
    pub leaves : (image : List ℕ) → g.images new image → MayFollow step old image
    pub nothing_else : (time : ℕ) (image : List ℕ) → time ≤ g.clock old → g.since new time image → g.since old time image ⊎ MayFollow step old image

  -- nothing was changed
  pub record IsQuiet (old new : D) : Type 0 where
    pub later : g.clock old ≤ g.clock new
    pub leaves : (image : List ℕ) → g.images new image → g.images old image
    pub nothing_else : (time : ℕ) (image : List ℕ) → time ≤ g.clock old → g.since new time image → g.since old time image ⊎ g.images old image

  -- the disk has the same name, and its bytes are still known or unknown
  pub record KeepsName (old new : D) : Type 0 where
    pub told_stays : is_some (g.bytes new) ≡ is_some (g.bytes old)
    pub name_stays : g.opened_as new ≡ g.opened_as old

  -- a call only read: nothing was changed, and a success leaves the bytes
  pub record OnlyReads {T E : Type 0} (old new : D) (result : Result T E) : Type 0 where
    pub bytes_stay : OnOk result (g.bytes new ≡ g.bytes old)
    pub quiet : IsQuiet old new
    pub named : KeepsName old new

  -- every image that a crash may leave now, or might have left at a moment of the run, has the property `P`
  pub record LeavesOnly (old new : D) (P : List ℕ → Type 0) : Type 0 where
    pub later : g.clock old ≤ g.clock new
    pub now : (image : List ℕ) → g.images new image → P image
    pub each : (image : List ℕ) → g.since new (g.clock old) image → P image
    -- for a run that began earlier
    pub before : (time : ℕ) (image : List ℕ) → time ≤ g.clock old → g.since new time image → g.since old time image ⊎ P image

  -- the disk has these bytes, and a crash leaves nothing else
  pub record Holds (disk : D) (bytes : List ℕ) : Type 0 where
    pub told : g.bytes disk ≡ Some bytes
    pub alone : (image : List ℕ) → g.images disk image → image ≡ bytes
