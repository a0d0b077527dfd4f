-- Bytes read from what shows them, one after another.
use Rattle.std.proofs.Common.{◌≡◌, ℕ, suc, ◌<◌, true, List, [], ◌∷◌, ◌++◌, length, get_or, flat_map, inl, inr, sym, ap, ◌∙◌, subst, arith, append_assoc, append-nil}
use Rattle.std.proofs.lemmas.Bool.{and_parts, cases_lt, lt-ltb, le-ltb}
use Rattle.std.specs.Str.{is_utf8}
use Rattle.std.proofs.lemmas.Str.{IsUtf8-from_is_utf8}
use lib.Utf8.{scalar, scalars, scalar_cases, encode, encodes}
use Rattle.dmap_show.specs.Readable.{AreBytes}
use Rattle.dmap_show.specs.Parts.{piece}
use Rattle.dmap_show.specs.declared.spelled.Form.{Form}

-- the bytes so far are a prefix of all bytes, and what is left shows the others
abbrev pub Remains : Form → List ℕ → List ℕ → List ℕ → Type 0
Remains form all bytes left = (others : List ℕ) × (AreBytes others × ((all ≡ bytes ++ others) × (left ≡ flat_map (piece form) others)))

pub read_on : (form : Form) (all bytes left rest : List ℕ) (byte : ℕ)
    → ((b : ℕ) (more : List ℕ) → b < 256 → left ≡ piece form b ++ more → (byte ≡ b) × (rest ≡ more))
    → length rest < length left → Remains form all bytes left → Remains form all (bytes ++ byte ∷ []) rest
read_on form all bytes left rest byte shown shorter ([], (are, (e, f))) = let empty = ap length f in absurd (omega arith)
read_on form all bytes left rest byte shown shorter (b ∷ others, (are, (e, f))) =
    let first = shown b (flat_map (piece form) others) are.0 f in
    (others, (are.1, (e ∙ ap (λ x. bytes ++ x ∷ others) (sym first.0) ∙ sym (append_assoc bytes (byte ∷ []) others), first.1)))

pub read_end : (form : Form) (all bytes left : List ℕ)
    → ((b : ℕ) (more : List ℕ) → left ≡ piece form b ++ more → ⊥) → Remains form all bytes left → bytes ≡ all
read_end form all bytes left stops ([], (are, (e, f))) = sym (e ∙ append-nil bytes)
read_end form all bytes left stops (b ∷ others, (are, (e, f))) = absurd (stops b (flat_map (piece form) others) f)

pub are_bytes : (bytes : List ℕ) → ((i : ℕ) → i < length bytes → get_or bytes i 0 < 256) → AreBytes bytes
are_bytes [] h = tt
are_bytes (b ∷ bytes) h = (h 0 (omega arith), are_bytes bytes (λ i below. h (suc i) (omega arith)))

append_bytes : (xs ys : List ℕ) → AreBytes xs → AreBytes ys → AreBytes (xs ++ ys)
append_bytes [] ys h k = k
append_bytes (x ∷ xs) ys h k = (h.0, append_bytes xs ys h.1 k)

-- a character is encoded in bytes
char_bytes : (c : ℕ) → scalar c ≡ true → AreBytes (encode c)
unfolding encode
char_bytes c ok =
    let top : c < 1114112 = elim (scalar_cases c ok) [ inl h ↦ omega arith | inr h ↦ h.1 ] in
    elim (cases_lt c 128) [
      | inl a ↦ rw (lt-ltb c 128 a) (omega arith, tt)
      | inr a ↦ rw (le-ltb c 128 a) (elim (cases_lt c 2048) [
        | inl b ↦ rw (lt-ltb c 2048 b) (omega arith, (omega arith, tt))
        | inr b ↦ rw (le-ltb c 2048 b) (elim (cases_lt c 65536) [
          | inl d ↦ rw (lt-ltb c 65536 d) (omega arith, (omega arith, (omega arith, tt)))
          | inr d ↦ rw (le-ltb c 65536 d) (omega arith, (omega arith, (omega arith, (omega arith, tt))))
        ])
      ])
    ]

all_char_bytes : (cs : List ℕ) → scalars cs ≡ true → AreBytes (encodes cs)
all_char_bytes [] e = tt
all_char_bytes (c ∷ cs) e = let p = and_parts _ _ e in append_bytes (encode c) (encodes cs) (char_bytes c p.0) (all_char_bytes cs p.1)

-- and so is a text
pub utf8_bytes : (bytes : List ℕ) → is_utf8 bytes ≡ true → AreBytes bytes
utf8_bytes bytes h = let u = IsUtf8-from_is_utf8 bytes h in subst AreBytes u.1.1 (all_char_bytes u.0 u.1.0)
