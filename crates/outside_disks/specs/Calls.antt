-- The calls of a disk in memory: what each found, and so what a crash since one of them might have left.
use Rattle.std.specs.Prelude.{◌≡◌, ◌⊎◌, ℕ, ◌+◌, Bool, List, [], ◌∷◌, ◌++◌, map, length, drop, Result, is_ok, ◌↔◌, Contains, IsErr}
use Rattle.outside_disks.specs.declared.memory.stand.Stand.{Stand}
use Rattle.outside_disks.specs.declared.memory.disk.DiskOp.{DiskOp}
use Rattle.outside_disks.specs.declared.memory.disk.DiskCall.{DiskCall}
use Rattle.outside_disks.specs.declared.memory.disk.MemDisk.{MemDisk}
use Rattle.outside_disks.specs.Disks.{Elapses}
use Rattle.outside_disks.specs.MemDisk.{IsImage}

-- A crash before one of the calls might have left this.
abbrev pub StoodAmong : List DiskCall → List ℕ → Type 0
StoodAmong [] image = ⊥
StoodAmong (call ∷ calls) image = IsImage call.before.value image ⊎ StoodAmong calls image

-- A crash now, or before a call since `time`, might have left this. The time is the number of calls.
abbrev pub StoodSince : Stand → List DiskCall → ℕ → List ℕ → Type 0
StoodSince stand calls time image = IsImage stand image ⊎ StoodAmong (drop time calls) image

-- One call was recorded, with what it found.
abbrev pub AddsCall : Stand → List DiskCall → List DiskCall → Type 0
AddsCall found before now = (call : DiskCall) × (call.before.value ≡ found) × (now ≡ before ++ call ∷ [])

-- A call as it is recorded: the operation, the offset or the length, the number of bytes, and whether it succeeded.
abbrev pub CallSeen : Type 0
CallSeen = DiskOp × ℕ × ℕ × Bool

abbrev pub call_seen : DiskCall → CallSeen
call_seen call = (call.op, call.at, call.len, call.done)

-- The calls so far.
abbrev pub calls_of : MemDisk → List CallSeen
calls_of disk = map call_seen disk.calls.items

-- The numbers of the calls that fail.
abbrev pub failing_calls : MemDisk → List ℕ
failing_calls disk = disk.failing.items

-- The bytes that reads return.
abbrev pub bytes_of : MemDisk → List ℕ
bytes_of disk = disk.stand.bytes.items

-- The name by which it was opened.
abbrev pub name_of : MemDisk → List ℕ
name_of disk = disk.name.items

-- What a crash now may leave.
abbrev pub images_of : MemDisk → List ℕ → Type 0
images_of disk = IsImage disk.stand

-- Time passes over a call. A crash before, within or after it might have left what the calls so far say.
abbrev pub PassesTime : MemDisk → MemDisk → Type 0
PassesTime before now =
    Elapses (length before.calls.items) (length now.calls.items) (StoodSince before.stand before.calls.items)
    (StoodSince now.stand now.calls.items) (images_of now)

-- A call lacked capacity and did nothing. Or it was recorded, and failed exactly if it was set to; the first has the
-- number 1.
abbrev pub Calls : {T E : Type 0} → MemDisk → MemDisk → DiskOp → ℕ → ℕ → Result T E → Type 0
Calls before now op at len result =
    ((calls_of now ≡ calls_of before) × IsErr result)
    ⊎ ((calls_of now ≡ calls_of before ++ (op, at, len, is_ok result) ∷ [])
    × (IsErr result ↔ Contains (failing_calls before) (length (calls_of before) + 1)))
