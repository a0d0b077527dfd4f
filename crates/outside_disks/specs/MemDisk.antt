-- What a disk in memory has, what a crash may leave of it, and what its calls were.
use Rattle.std.specs.Prelude.{◌≡◌, ◌⊎◌, ◌<◌, ◌-◌, ◌^◌, ℕ, List, [], ◌∷◌, length, vec_len, vec_capacity}
use Rattle.outside_disks.specs.declared.memory.stand.Stand.{Stand}
use Rattle.outside_disks.specs.declared.memory.stand.Change.{Change}
use Rattle.outside_disks.specs.declared.memory.stand.Change.TheVariants.{Write, Cut}
use Rattle.outside_disks.specs.Disks.{Torn, CutShort}

-- What a crash may leave of a change that it interrupts.
abbrev pub May : Change → List ℕ → List ℕ → Type 0
May (Write at len) before now = Torn at len before now
May (Cut len) before now = CutShort len before now

-- The changes, in order, may leave this image. No image between them is longer than a disk can be.
abbrev pub Reaches : List ℕ → List Change → List ℕ → Type 0
Reaches before [] image = image ≡ before
Reaches before (change ∷ changes) image =
    (mid : List ℕ) × May change before mid × (length mid < 2 ^ 63) × Reaches mid changes image

-- The bytes that reads return.
abbrev pub bytes_in : Stand → List ℕ
bytes_in stand = stand.bytes.items

-- The capacity for bytes.
abbrev pub room_in : Stand → ℕ
room_in stand = stand.room

-- The capacity for more changes.
abbrev pub pending_room : Stand → ℕ
pending_room stand = vec_capacity stand.pending - vec_len stand.pending

-- A crash may leave the bytes, or what the changes since the last sync may leave of those that were safe then.
abbrev pub IsImage : Stand → List ℕ → Type 0
IsImage stand image = (image ≡ stand.bytes.items) ⊎ Reaches stand.synced.items stand.pending.items image
