-- How the calls of a disk change its bytes, and the images that a crash may leave of them.
use Rattle.std.specs.Prelude.{◌≡◌, ◌↔◌, ◌⊎◌, ℕ, ◌+◌, ◌≤◌, min, max, List, ◌++◌, length, take, drop, Option, Some}

-- The bytes with `piece` at offset `at`: over the old bytes there, and past the end.
abbrev pub overlaid : List ℕ → ℕ → List ℕ → List ℕ
overlaid bytes at piece = take at bytes ++ (piece ++ drop (at + length piece) bytes)

-- A read at offset `at` returned the first `n` bytes of the buffer, and 0 exactly at or past the end.
pub record ReadsFrom (bytes : List ℕ) (at n : ℕ) (room : List ℕ) : Type 0 where
  pub taken : take n room ≡ take n (drop at bytes)
  pub within : n ≤ length (drop at bytes)
  pub none : (n ≡ 0) ↔ (length bytes ≤ at)

-- A write of `count` bytes that a crash interrupts: any bytes in the part of its range that is within the image or
-- past the image's end, and the same bytes elsewhere.
pub record Torn (at count : ℕ) (before now : List ℕ) : Type 0 where
  pub no_shorter : length before ≤ length now
  pub no_longer : length now ≤ max (length before) (at + count)
  pub front : take (min at (length before)) now ≡ take at before
  pub behind : drop (at + count) (take (length before) now) ≡ drop (at + count) before

-- A truncation that a crash leaves undone or in part: some length from the wanted one to the old one.
pub record CutShort (len : ℕ) (before now : List ℕ) : Type 0 where
  pub no_shorter : min len (length before) ≤ length now
  pub front : now ≡ take (length now) before

-- Each image now follows from an image before by the step.
abbrev pub Follows : (List ℕ → List ℕ → Type 0) → (List ℕ → Type 0) → (List ℕ → Type 0) → Type 0
Follows step before now = (image : List ℕ) → now image → (earlier : List ℕ) × before earlier × step earlier image

-- No image is new.
abbrev pub NoMore : (List ℕ → Type 0) → (List ℕ → Type 0) → Type 0
NoMore before now = (image : List ℕ) → now image → before image

-- The bytes are the one image.
abbrev pub Only : Option (List ℕ) → (List ℕ → Type 0) → Type 0
Only bytes images = (image : List ℕ) → images image → bytes ≡ Some image

-- Time passes: a crash since some time might have left what it might have left before this call, or what it may leave
-- now.
pub record Elapses (before now : ℕ) (past since : ℕ → List ℕ → Type 0) (images : List ℕ → Type 0) : Type 0 where
  pub later : before ≤ now
  pub nothing_else : (time : ℕ) (image : List ℕ) → time ≤ before → since time image → past time image ⊎ images image
  pub keeps : (time : ℕ) (image : List ℕ) → time ≤ before → past time image → since time image
