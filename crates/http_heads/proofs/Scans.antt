-- A scan over bytes, in stages, and its end.
use Rattle.std.proofs.Common.{◌≡◌, ℕ, suc, ◌+◌, ◌≤◌, List, [], ◌∷◌, ◌++◌, length, Option, Some, None, option_and_then, Bool, true, false, if◌then◌else◌, ◌==◌, refl, ap, ◌∙◌, arith}
use Rattle.std.proofs.lemmas.Option.{option_and_then_some}
use Rattle.http_heads.specs.declared.scanning.Begun.{Begun}
use Rattle.http_heads.specs.declared.scanning.Begun.TheVariants.{Nothing, Return, Text}
use Rattle.http_heads.specs.declared.scanning.Scan.{Scan}
use Rattle.http_heads.specs.Scanning.{begun_with, at_line_end, after_byte, after}

-- a scan over two parts is the scan over the second after the first
pub after_both : (s t : Scan) (a b : List ℕ) → after s a ≡ Some t → after s (a ++ b) ≡ after t b
after_both s t [] b e = ap (λ u. after u b) (let same : s ≡ t = cc in same)
after_both s t (x ∷ xs) b e =
    option_and_then_some (λ u. after u xs) (after_byte s x) t e
    (λ u h k. ap (option_and_then (λ v. after v (xs ++ b))) h ∙ after_both u t xs b k)

-- a byte more
pub after_more : (s t : Scan) (bytes : List ℕ) (b : ℕ) → after s bytes ≡ Some t → after s (bytes ++ b ∷ []) ≡ after_byte t b
after_more s t bytes b e = after_both s t bytes (b ∷ []) e ∙ kept (after_byte t b)
  where
    kept : (o : Option Scan) → option_and_then (λ u. after u []) o ≡ o
    kept None = refl
    kept (Some u) = refl

-- a scan that has ended does not continue
pub after_ended : (s t : Scan) (front : List ℕ) (b : ℕ) (rest : List ℕ) → after s front ≡ Some t → after_byte t b ≡ None
    → after s (front ++ b ∷ rest) ≡ None
after_ended s t front b rest e h = after_both s t front (b ∷ rest) e ∙ ap (option_and_then (λ u. after u rest)) h

line_end_full : (begun : Begun) (full : ℕ) (t : Scan) → at_line_end begun full ≡ Some t → t.full ≤ suc full
line_end_full Nothing full t e = grind arith
line_end_full Return full t e = grind arith
line_end_full Text full t e = grind arith

-- a byte ends one line at most
pub byte_full : (s t : Scan) (b : ℕ) → after_byte s b ≡ Some t → t.full ≤ suc s.full
byte_full s t b e = by_end (b == 10) e
  where
    by_end : (end : Bool)
        → (if end then at_line_end s.begun s.full else Some (record { full = s.full; begun = begun_with s.begun b })) ≡ Some t
        → t.full ≤ suc s.full
    by_end true h = line_end_full s.begun s.full t h
    by_end false h = grind arith

-- there are at most as many full lines as bytes
pub full_within : (s t : Scan) (bytes : List ℕ) → after s bytes ≡ Some t → t.full ≤ s.full + length bytes
full_within s t [] e = let same : s ≡ t = cc in grind arith
full_within s t (b ∷ bs) e =
    option_and_then_some (λ u. after u bs) (after_byte s b) t e
    (λ u h k. omega (arith, byte_full s u b h, full_within u t bs k))
