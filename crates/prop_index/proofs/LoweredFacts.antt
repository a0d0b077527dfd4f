-- A text whose ASCII letters are lowered is UTF-8, and an empty one folds to an empty one.
use Rattle.std.proofs.Common.{◌≡◌, ◌<◌, ◌≤◌, ◌&&◌, ◌++◌, ℕ, Bool, true, false, suc, List, [], ◌∷◌, length, take, get_or, refl, sym, ap, ap₂, ◌∙◌, subst, inl, inr, IsUtf8, encode_utf8, encode_utf8_all, append-nil, true≢false, arith}
use Rattle.std.specs.Char.{IsScalar, to_ascii_lowercase}
use Rattle.std.specs.Str.{all_scalars}
use Rattle.std.proofs.lemmas.Bool.{cases_lt}
use Rattle.std.proofs.lemmas.Bool.Decides.{nat_tests}
use Rattle.std.proofs.lemmas.List.{map-append, length-map}
use Rattle.std.proofs.lemmas.Str.{encode_ascii, inside_one, IsUtf8-nil, IsUtf8-append, IsUtf8-encode, IsUtf8-from_ascii}
use Rattle.std.proofs.lemmas.Str.Ascii.{IsAscii-nil, IsAscii-cons, lowercase_ascii}
use Rattle.std.proofs.Math.Seq.{take-append_seam}
use Rattle.item_model.specs.Folding.{lowered}
use Rattle.song_query.proofs.Folded.{nothing_searched}
use Rattle.prop_index.specs.Forms.{Form, spelled, any_case, in_form}

high_stays : (b : ℕ) → 128 ≤ b → to_ascii_lowercase b ≡ b
high_stays b h = grind (arith, nat_tests)

highs_stay : (bs : List ℕ) → ((k : ℕ) → k < length bs → 128 ≤ get_or bs k 0) → lowered bs ≡ bs
highs_stay [] h = refl
highs_stay (b ∷ bs) h = ap₂ ◌∷◌ (high_stays b (h 0 (omega arith))) (highs_stay bs (λ k l. h (suc k) (omega arith)))

-- the bytes of a character beyond ASCII are beyond it
wide_bytes : (c : ℕ) → 128 ≤ c → (k : ℕ) → k < length (encode_utf8 c) → 128 ≤ get_or (encode_utf8 c) k 0
wide_bytes c h k l =
    elim (cases_lt (get_or (encode_utf8 c) k 0) 128) [
      | inl low ↦ absurd (omega (arith, inside_one c [] (encode_utf8 c) k (sym (append-nil (encode_utf8 c))) l low))
      | inr high ↦ high
    ]

lowered_char : (c : ℕ) → IsScalar c → IsUtf8 (lowered (encode_utf8 c))
lowered_char c scalar =
    elim (cases_lt c 128) [
      | inl ascii ↦ subst (λ bs. IsUtf8 (lowered bs)) (sym (encode_ascii c ascii)) (IsUtf8-from_ascii (to_ascii_lowercase c ∷ []) (IsAscii-cons (to_ascii_lowercase c) [] (lowercase_ascii c ascii) IsAscii-nil))
      | inr wide ↦ subst IsUtf8 (sym (highs_stay (encode_utf8 c) (wide_bytes c wide))) (IsUtf8-encode c scalar)
    ]

both : (b c : Bool) → (b && c) ≡ true → (b ≡ true) × (c ≡ true)
both true c h = (refl, h)
both false c h = absurd (true≢false (sym h))

lowered_chars : (cs : List ℕ) → all_scalars cs ≡ true → IsUtf8 (lowered (encode_utf8_all cs))
lowered_chars [] h = IsUtf8-nil
lowered_chars (c ∷ cs) h =
    let are = both _ (all_scalars cs) h in
    subst IsUtf8 (sym (map-append to_ascii_lowercase (encode_utf8 c) (encode_utf8_all cs)))
    (IsUtf8-append _ _ (lowered_char c are.0) (lowered_chars cs are.1))

-- the lowered text at the front of an array is UTF-8
pub lowered_front : (text front rest : List ℕ) → IsUtf8 text → front ≡ lowered text → IsUtf8 (take (length text) (front ++ rest))
lowered_front text front rest utf8 is =
    let len : length text ≡ length front = sym (ap length is ∙ length-map text to_ascii_lowercase) in
    subst IsUtf8 (sym (ap (λ n. take n (front ++ rest)) len ∙ take-append_seam front rest ∙ is ∙ ap lowered (sym utf8.1.1)))
    (lowered_chars utf8.0 utf8.1.0)

-- nothing is folded to nothing
pub nothing_in : (form : Form) → in_form form [] ≡ []
nothing_in spelled = refl
nothing_in any_case = sym nothing_searched
