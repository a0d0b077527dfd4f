-- A printed part, character by character.
use Rattle.std.proofs.Common.{if◌then◌else◌, ◌≡◌, ◌⊎◌, ◌≤◌, ◌<◌, ◌++◌, ℕ, suc, false, List, [], ◌∷◌, refl, ap, sym, ◌∙◌, inl, inr, arith, append_assoc}
use Rattle.std.proofs.lemmas.Bool.{or_from, and_left, cond-false, ne_eqb, cases_lt}
use Rattle.std.proofs.lemmas.Str.{encode_ascii}
use Rattle.std.specs.Char.{encode_utf8}
use Rattle.song_query.specs.Printing.{is_escaped, printed_char, printed_piece}
use Rattle.song_query.proofs.Forms.{plain_printed}
use Rattle.song_query.proofs.Wide.{AreWide, wide_bytes, no_mark}

-- bytes above ASCII are printed as they are
wide_printed : (bytes rest : List ℕ) → AreWide bytes → printed_piece (bytes ++ rest) ≡ bytes ++ printed_piece rest
wide_printed [] rest h = refl
wide_printed (b ∷ bytes) rest h =
    ap (λ s. s ++ printed_piece (bytes ++ rest)) (plain_printed b (bytes ++ rest) (no_mark b (h.each 0 (omega arith))))
    ∙ ap (λ s. b ∷ s) (wide_printed bytes rest (record { each = λ k x. h.each (suc k) (omega arith) }))

not_escaped : (c : ℕ) (rest : List ℕ) → 128 ≤ c → is_escaped c rest ≡ false
not_escaped c rest h =
    or_from _ _ (or_from _ _ (ne_eqb c 39 (omega arith)) (ne_eqb c 42 (omega arith))) (and_left _ _ (ne_eqb c 92 (omega arith)))

char_by : (c : ℕ) (rest : List ℕ) → (c < 128) ⊎ (128 ≤ c) → printed_char c rest ++ printed_piece rest ≡ printed_piece (encode_utf8 c ++ rest)
char_by c rest (inl h) =
    ap (λ s. (if is_escaped c rest then 92 ∷ s else s) ++ printed_piece rest) (encode_ascii c h)
    ∙ ap (λ s. printed_piece (s ++ rest)) (sym (encode_ascii c h))
char_by c rest (inr h) =
    ap (λ s. s ++ printed_piece rest) (cond-false (is_escaped c rest) (92 ∷ encode_utf8 c) (encode_utf8 c) (not_escaped c rest h))
    ∙ sym (wide_printed (encode_utf8 c) rest (wide_bytes c h))

-- a character and the rest after it
pub char_printed : (c : ℕ) (rest : List ℕ) → printed_char c rest ++ printed_piece rest ≡ printed_piece (encode_utf8 c ++ rest)
char_printed c rest = char_by c rest (cases_lt c 128)

-- one more character is pushed
pub pushed : (c : ℕ) (out new old whole left rest : List ℕ) → out ++ printed_piece left ≡ whole → left ≡ encode_utf8 c ++ rest → old ≡ rest → new ≡ out ++ printed_char c old
    → new ++ printed_piece rest ≡ whole
pushed c out new old whole left rest h e o n =
    ap (λ s. s ++ printed_piece rest) (n ∙ ap (λ s. out ++ printed_char c s) o)
    ∙ append_assoc out (printed_char c rest) (printed_piece rest)
    ∙ ap (λ s. out ++ s) (char_printed c rest ∙ ap printed_piece (sym e))
    ∙ h
