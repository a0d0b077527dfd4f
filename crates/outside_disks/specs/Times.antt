-- What is true of the images of a disk in memory at any time.
use Rattle.std.specs.Prelude.{◌≡◌, ◌<◌, ◌^◌, ℕ, List, [], ◌∷◌, length, drop, Some, unwrap_or}
use Rattle.std.proofs.Common.{sym, ap, subst}
use mathlib.Core.Logic.{inl, inr}
use Rattle.outside_disks.specs.declared.memory.stand.Stand.{Stand}
use Rattle.outside_disks.specs.declared.memory.stand.Change.{Change}
use Rattle.outside_disks.specs.declared.memory.disk.DiskCall.{DiskCall}
use Rattle.outside_disks.specs.MemDisk.{IsImage, Reaches}
use Rattle.outside_disks.specs.Calls.{StoodAmong, StoodSince}

none_left : (calls : List DiskCall) (image : List ℕ) → StoodAmong (drop (length calls) calls) image → ⊥
none_left [] image stood = stood
none_left (call ∷ calls) image stood = none_left calls image stood

-- Since the last call a crash leaves only what it may leave now.
pub stood_alone : (stand : Stand) (calls : List DiskCall) (image : List ℕ) → StoodSince stand calls (length calls) image → IsImage stand image
stood_alone stand calls image (inl now) = now
stood_alone stand calls image (inr stood) = absurd (none_left calls image stood)

-- The known bytes are an image.
pub told_is_image : (stand : Stand) (told : List ℕ) → Some stand.bytes.items ≡ Some told → IsImage stand told
told_is_image stand told is = inl (sym (ap (λ bytes. unwrap_or bytes []) is))

reaches_short : (before : List ℕ) (changes : List Change) (image : List ℕ) → length before < 2 ^ 63 → Reaches before changes image
    → length image < 2 ^ 63
reaches_short before [] image short is = subst (λ bytes. length bytes < 2 ^ 63) (sym is) short
reaches_short before (change ∷ changes) image short reaches = reaches_short reaches.0 changes image reaches.2 reaches.3

-- No image is longer than a disk can be.
pub image_is_short : (stand : Stand) (image : List ℕ) → IsImage stand image → length image < 2 ^ 63
image_is_short stand image (inl is) = subst (λ bytes. length bytes < 2 ^ 63) (sym is) stand.bytes_are_short
image_is_short stand image (inr reaches) = reaches_short stand.synced.items stand.pending.items image stand.synced_are_short reaches
