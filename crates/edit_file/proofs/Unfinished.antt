-- What a torn write leaves of a file that is being made: no batches, at each moment.
use Rattle.std.proofs.Common.{◌≡◌, ◌≢◌, ◌⊎◌, ℕ, ◌<◌, ◌≤◌, ◌==◌, min, List, [], ◌∷◌, ◌++◌, length, take, drop, get_or, Bool, true, false, refl, sym, ap, ◌∙◌, subst, inl, inr, true≢false, length-drop, drop_of_length-le, arith}
use Rattle.std.specs.Cmp.{unsigned_Decides}
use Rattle.outside_disks.specs.Disks.{overlaid, Torn}
use Rattle.edit_file.specs.Making.{IsBegun}
use Rattle.edit_file.specs.Standing.{opened, signature, IsUnmade, FileStands}
use Rattle.edit_file.proofs.Behind.{torn_closing}

zero_is_closed : 0 ≢ opened
zero_is_closed z = omega (arith, z)

-- fewer than two bytes stay fewer than two
pub first_unmade : (bytes image : List ℕ) → length bytes < 2 → (image ≡ bytes) ⊎ Torn 0 1 bytes image → IsUnmade image
first_unmade bytes image short left = elim left [
  | inl same ↦ inl (omega (arith, short, ap (λ (l : List ℕ). length l) same))
  | inr torn ↦ inl (omega (arith, short, torn.no_longer))
]

-- the first byte written, the file is begun
pub first_begun : (bytes : List ℕ) → length bytes < 2 → IsBegun (overlaid bytes 0 (0 ∷ []))
first_begun bytes short = record {
  some = omega arith;
  few = omega (arith, short, length-drop 1 bytes);
  closed = zero_is_closed;
}

-- an unfinished file of two bytes or more is begun
pub long_begun : (bytes : List ℕ) → 2 ≤ length bytes → IsUnmade bytes → IsBegun bytes
long_begun bytes long unmade = elim unmade [
  | inl short ↦ absurd (omega (arith, long, short))
  | inr closed ↦ record { some = omega (arith, long); few = closed.0; closed = closed.1 }
]

first_of : (bytes : List ℕ) → get_or (take 1 bytes) 0 0 ≡ get_or bytes 0 0
first_of [] = refl
first_of (byte ∷ bytes) = refl

pub begun_unmade : (bytes : List ℕ) → IsBegun bytes → IsUnmade bytes
begun_unmade bytes begun = inr (begun.few, begun.closed)

-- while the rest is being written, the first byte closes
pub head_unmade : (bytes image : List ℕ) → IsBegun bytes → (image ≡ bytes) ⊎ Torn 1 9 bytes image → IsUnmade image
head_unmade bytes image begun left = elim left [
  | inl same ↦ subst (λ (l : List ℕ). IsUnmade l) (sym same) (begun_unmade bytes begun)
  | inr torn ↦
      let low : min 1 (length bytes) ≡ 1 = omega (arith, begun.some) in
      let front : take 1 image ≡ take 1 bytes = ap (λ (n : ℕ). take n image) (sym low) ∙ torn.front in
      let first : get_or image 0 0 ≡ get_or bytes 0 0 =
      sym (first_of image) ∙ ap (λ (l : List ℕ). get_or l 0 0) front ∙ first_of bytes in
      inr (omega (arith, torn.no_longer, begun.few), λ same. begun.closed (sym first ∙ same))
]

pub head_written : (bytes : List ℕ) → IsBegun bytes → overlaid bytes 1 (signature ++ 0 ∷ []) ≡ get_or bytes 0 0 ∷ signature ++ 0 ∷ []
head_written [] begun = absurd (omega (arith, begun.some))
head_written (byte ∷ bytes) begun =
    let none : drop 9 bytes ≡ [] = drop_of_length-le bytes {i = 9} (omega (arith, begun.few)) in
    ap (λ (l : List ℕ). byte ∷ signature ++ 0 ∷ l) none

-- whatever the first byte is, there are no batches
pub either_empty : (byte : ℕ) (image : List ℕ) → image ≡ byte ∷ signature ++ 0 ∷ [] → FileStands image []
either_empty byte image e = by_byte (byte == opened) refl
  where
    by_byte : (is_open : Bool) → (byte == opened) ≡ is_open → FileStands image []
    by_byte true is = inr (record {
      frames = [];
      closing = 0;
      behind = [];
      bytes_are = e ∙ ap (λ (b : ℕ). b ∷ signature ++ 0 ∷ []) ((unsigned_Decides byte opened).0 is);
      framed = refl;
      shut = zero_is_closed;
    })
    by_byte false is = inl (
      inr (
        omega (arith, ap (λ (l : List ℕ). length l) e),
        λ same. true≢false (sym ((unsigned_Decides byte opened).1 (sym (ap (λ (l : List ℕ). get_or l 0 0) e) ∙ same)) ∙ is),
      ),
      refl,
    )

-- while the first byte is being opened, there are no batches
pub open_empty : (byte : ℕ) (image : List ℕ) → (image ≡ byte ∷ signature ++ 0 ∷ []) ⊎ Torn 0 1 (byte ∷ signature ++ 0 ∷ []) image → FileStands image []
open_empty byte image left = elim left [
  | inl same ↦ either_empty byte image same
  | inr torn ↦ either_empty (get_or image 0 0) image (torn_closing [] byte 0 (signature ++ 0 ∷ []) image refl torn)
]

pub unmade_stands : (image : List ℕ) → IsUnmade image → FileStands image []
unmade_stands image unmade = inl (unmade, refl)
