-- What a change may leave, and what the changes before it may have left.
use Rattle.std.proofs.Common.{◌≡◌, ◌⊎◌, ◌≤◌, ℕ, ◌+◌, min, List, [], ◌∷◌, ◌++◌, length, take, drop, length-append, length-drop, inl, inr, refl, sym, ap, subst, ◌∙◌, arith}
use Rattle.std.proofs.lemmas.List.{take_at, take_all, take_min, length-take, append_assoc}
use Rattle.std.proofs.lemmas.Slice.{drop-append-drop}
use Rattle.std.proofs.lemmas.Bool.{cases_lt}
use Rattle.std.proofs.Math.Seq.{take-length}
use Rattle.std.proofs.Math.ListN.{drop_of_length-le}
use Rattle.outside_disks.specs.declared.memory.stand.Change.{Change}
use Rattle.outside_disks.specs.Disks.{overlaid, Torn, CutShort}
use Rattle.outside_disks.specs.MemDisk.{May, Reaches}

-- the length of bytes with a piece at an offset
length-overlaid : (bytes piece : List ℕ) (at : ℕ)
    → length (overlaid bytes at piece) ≡ min at (length bytes) + (length piece + length (drop (at + length piece) bytes))
length-overlaid bytes piece at =
    length-append (take at bytes) (piece ++ drop (at + length piece) bytes)
    ∙ (ap (λ n. n + length (piece ++ drop (at + length piece) bytes)) (length-take at bytes)
    ∙ ap (λ n. min at (length bytes) + n) (length-append piece (drop (at + length piece) bytes)))

-- what is past the piece is unchanged
behind_overlaid : (bytes piece : List ℕ) (at : ℕ) → at ≤ length bytes
    → drop (at + length piece) (take (length bytes) (overlaid bytes at piece)) ≡ drop (at + length piece) bytes
behind_overlaid bytes piece at inside = elim (cases_lt (length bytes) (at + length piece)) [
  | inl past ↦ drop_of_length-le (take (length bytes) (overlaid bytes at piece))
      (omega (arith, past, length-take (length bytes) (overlaid bytes at piece)))
      ∙ sym (drop_of_length-le bytes (omega (arith, past)))
  | inr within ↦ ap (drop (at + length piece)) (take_all (length bytes) (overlaid bytes at piece)
      (omega (arith, inside, within, length-overlaid bytes piece at, length-drop (at + length piece) bytes)))
      ∙ (ap (drop (at + length piece)) (sym (append_assoc (take at bytes) piece (drop (at + length piece) bytes)))
      ∙ drop-append-drop (at + length piece) bytes (take at bytes ++ piece) (at + length piece) (omega arith)
      (omega (arith, inside, length-append (take at bytes) piece, length-take at bytes)))
]

-- a write that is done is among what a crash may leave of it
pub torn_overlaid : (bytes piece : List ℕ) (at : ℕ) → at ≤ length bytes → Torn at (length piece) bytes (overlaid bytes at piece)
torn_overlaid bytes piece at inside = record {
  no_shorter = omega (arith, inside, length-overlaid bytes piece at, length-drop (at + length piece) bytes);
  no_longer = omega (arith, inside, length-overlaid bytes piece at, length-drop (at + length piece) bytes);
  front = take_at (take at bytes) (piece ++ drop (at + length piece) bytes) (min at (length bytes)) (length-take at bytes);
  behind = behind_overlaid bytes piece at inside;
}

-- so is one of which nothing was done
pub torn_same : (bytes : List ℕ) (at count : ℕ) → Torn at count bytes bytes
torn_same bytes at count = record {
  no_shorter = omega arith;
  no_longer = omega arith;
  front = take_min at bytes;
  behind = ap (drop (at + count)) (take-length bytes);
}

-- a truncation that is done
pub cut_taken : (bytes : List ℕ) (len : ℕ) → CutShort len bytes (take len bytes)
cut_taken bytes len = record {
  no_shorter = omega (arith, length-take len bytes);
  front = sym (ap (λ n. take n bytes) (length-take len bytes) ∙ take_min len bytes);
}

-- one of which nothing was done
pub cut_same : (bytes : List ℕ) (len : ℕ) → CutShort len bytes bytes
cut_same bytes len = record { no_shorter = omega arith; front = sym (take-length bytes) }

-- what may be reached by one change more was reached before it
reaches_behind : (changes : List Change) (change : Change) (before image : List ℕ) → Reaches before (changes ++ change ∷ []) image
    → (mid : List ℕ) × Reaches before changes mid × May change mid image
reaches_behind [] change before image reaches = (before, refl, subst (May change before) (sym reaches.3) reaches.1)
reaches_behind (first ∷ changes) change before image reaches =
    let rest = reaches_behind changes change reaches.0 image reaches.3 in
    (rest.0, (reaches.0, reaches.1, reaches.2, rest.1), rest.2)

-- with one change more pending, each image is one from before, after that change
pub follows : (change : Change) (bytes now synced : List ℕ) (old new : List Change) → new ≡ old ++ change ∷ [] → May change bytes now
    → (image : List ℕ) → (image ≡ now) ⊎ Reaches synced new image
    → (earlier : List ℕ) × ((earlier ≡ bytes) ⊎ Reaches synced old earlier) × May change earlier image
follows change bytes now synced old new is may image (inl e) = (bytes, inl refl, subst (May change bytes) (sym e) may)
follows change bytes now synced old new is may image (inr reaches) =
    let rest = reaches_behind old change synced image (subst (λ changes. Reaches synced changes image) is reaches) in
    (rest.0, inr rest.1, rest.2)
