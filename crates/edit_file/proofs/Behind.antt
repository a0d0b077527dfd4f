-- What a torn write leaves of bytes that end with a closing byte, after it and at it.
use Rattle.std.proofs.Common.{◌≡◌, ◌⊎◌, ℕ, suc, ◌+◌, min, List, [], ◌∷◌, ◌++◌, length, take, drop, get_or, refl, sym, ap, ◌∙◌, inl, inr, append_assoc, take_at, drop_at, length-append, take-append-drop, drop-cons, drop_of_length-le, append-nil, arith}
use Rattle.std.proofs.lemmas.List.{take_all}
use Rattle.outside_disks.specs.Disks.{overlaid, Torn}
use Rattle.edit_file.specs.Adding.{IsClosedOrFramed}

-- a write at the end leaves the bytes, with anything after them
pub torn_at_end : (bytes : List ℕ) (at count : ℕ) (image : List ℕ) → at ≡ length bytes → Torn at count bytes image → image ≡ bytes ++ drop at image
torn_at_end bytes at count image end torn =
    let low : min at (length bytes) ≡ at = omega (arith, end) in
    let front : take at image ≡ bytes =
    ap (λ (n : ℕ). take n image) (sym low) ∙ torn.front ∙ take_all at bytes (omega (arith, end)) in
    sym (take-append-drop at image) ∙ ap (λ (l : List ℕ). l ++ drop at image) front

-- a write after the closing byte leaves that byte
pub behind_closed : (front : List ℕ) (shut at count : ℕ) (frame image : List ℕ) → length front ≡ at
    → (image ≡ front ++ shut ∷ []) ⊎ Torn (at + 1) count (front ++ shut ∷ []) image → IsClosedOrFramed front shut frame image
behind_closed front shut at count frame image place left = elim left [
  | inl same ↦ inl ([], same)
  | inr torn ↦ inl (
    drop (at + 1) image,
    torn_at_end (front ++ shut ∷ []) (at + 1) count image (omega (arith, place, length-append front (shut ∷ []))) torn ∙ append_assoc front (shut ∷ []) (drop (at + 1) image),
  )
]

-- a write of the closing byte leaves any byte in its place
pub torn_closing : (front : List ℕ) (shut at : ℕ) (frame image : List ℕ) → length front ≡ at
    → Torn at 1 (front ++ shut ∷ frame) image → image ≡ front ++ get_or image at 0 ∷ frame
torn_closing front shut at frame image place torn =
    let bytes = front ++ shut ∷ frame in
    let size : length bytes ≡ at + suc (length frame) = length-append front (shut ∷ frame) ∙ ap (λ (n : ℕ). n + suc (length frame)) place in
    let low : min at (length bytes) ≡ at = omega (arith, size) in
    let whole : take (length bytes) image ≡ image = take_all (length bytes) image (omega (arith, torn.no_longer, size)) in
    let begins : take at image ≡ front = ap (λ (n : ℕ). take n image) (sym low) ∙ torn.front ∙ take_at front (shut ∷ frame) at place in
    let ends : drop (at + 1) image ≡ frame =
    ap (λ (l : List ℕ). drop (at + 1) l) (sym whole) ∙ torn.behind
    ∙ ap (λ (l : List ℕ). drop (at + 1) l) (sym (append_assoc front (shut ∷ []) frame))
    ∙ drop_at (front ++ shut ∷ []) frame (at + 1) (omega (arith, place, length-append front (shut ∷ []))) in
    let one_more : suc at ≡ at + 1 = omega arith in
    let next : drop at image ≡ get_or image at 0 ∷ frame =
    drop-cons image at 0 (omega (arith, size, torn.no_shorter))
    ∙ ap (λ (n : ℕ). get_or image at 0 ∷ drop n image) one_more
    ∙ ap (λ (l : List ℕ). get_or image at 0 ∷ l) ends in
    sym (take-append-drop at image) ∙ ap (λ (l : List ℕ). l ++ drop at image) begins ∙ ap (λ (l : List ℕ). front ++ l) next

pub at_closing : (front : List ℕ) (shut at : ℕ) (frame image : List ℕ) → length front ≡ at
    → (image ≡ front ++ shut ∷ frame) ⊎ Torn at 1 (front ++ shut ∷ frame) image → IsClosedOrFramed front shut frame image
at_closing front shut at frame image place left = elim left [
  | inl same ↦ inr (shut, same)
  | inr torn ↦ inr (get_or image at 0, torn_closing front shut at frame image place torn)
]

-- a piece at the end of the bytes is appended
pub overlaid_end : (bytes piece : List ℕ) (at : ℕ) → at ≡ length bytes → overlaid bytes at piece ≡ bytes ++ piece
overlaid_end bytes piece at end = rw (take_all at bytes (omega (arith, end)), drop_of_length-le bytes {i = at + length piece} (omega (arith, end)), append-nil piece) refl
