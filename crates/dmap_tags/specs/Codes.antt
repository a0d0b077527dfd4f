-- A content code: the four bytes that open a tag, as DMAP sends them.
use Rattle.std.specs.Prelude.{◌≡◌, ◌<◌, ℕ, List, [], ◌∷◌, Bool, ◌==◌, ◌&&◌, length, get_or, codes, refl}
use Rattle.std.specs.Coded.{Coded, code_by, coded×, coded_ℕ}
use Prim.Native.String.{String}
use Rattle.std.proofs.Common.{arith}

abbrev pub Four : Type 0
Four = ℕ × ℕ × ℕ × ℕ

-- the bytes of a code, in order
abbrev pub code_bytes : Four → List ℕ
code_bytes c = c.0 ∷ c.1 ∷ c.2 ∷ c.3 ∷ []

-- the code whose bytes are these four
abbrev pub code_of : List ℕ → Four
code_of bytes = (get_or bytes 0 0, get_or bytes 1 0, get_or bytes 2 0, get_or bytes 3 0)

-- the code with the characters of a literal, as "mlit"
abbrev pub code : String → Four
code s = code_of (codes s)

-- whether two codes are equal
abbrev pub is_code : Four → Four → Bool
is_code a b = (a.0 == b.0) && ((a.1 == b.1) && ((a.2 == b.2) && (a.3 == b.3)))

-- how codes are stored: as four numbers
abbrev pub four_code : Coded Four
four_code =
    code_by (ℕ × (ℕ × (ℕ × ℕ))) (coded× coded_ℕ (coded× coded_ℕ (coded× coded_ℕ coded_ℕ)))
    (λ c. (c.0, (c.1, (c.2, c.3)))) (λ p. (p.0, p.1.0, p.1.1.0, p.1.1.1)) (λ _. refl)

-- four numbers, each a byte
pub record AreFourBytes (bytes : List ℕ) : Type 0 where
  pub count : length bytes ≡ 4
  pub each : (i : ℕ) → get_or bytes i 0 < 256

-- the bytes of the code of four bytes are these four
pub four_again : (bytes : List ℕ) → length bytes ≡ 4 → code_bytes (code_of bytes) ≡ bytes
four_again [] h = absurd (cc)
four_again (a ∷ []) h = absurd (omega arith)
four_again (a ∷ b ∷ []) h = absurd (omega arith)
four_again (a ∷ b ∷ c ∷ []) h = absurd (omega arith)
four_again (a ∷ b ∷ c ∷ d ∷ []) h = refl
four_again (a ∷ b ∷ c ∷ d ∷ e ∷ rest) h = absurd (omega arith)
