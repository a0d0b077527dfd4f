-- Hex digits and content codes read back.
use Rattle.std.proofs.Common.{◌≡◌, ◌≢◌, ℕ, suc, ◌+◌, ◌*◌, ◌/◌, ◌%◌, ◌<◌, true, false, if◌then◌else◌, List, [], ◌∷◌, ◌++◌, length, get_or, flat_map, Option, Some, None, MatchOption, IsAscii, inl, inr, refl, sym, ap, ap₂, ◌∙◌, arith}
use Rattle.std.proofs.lemmas.Bool.{cases_Bool, true≢false}
use Rattle.std.proofs.lemmas.Bool.Decides.{nat_tests}
use Rattle.std.proofs.lemmas.Str.{digit_value-digit_char, IsUtf8-from_ascii, is_utf8-from_IsUtf8}
use Rattle.std.proofs.lemmas.Str.Ascii.{IsAscii-nil, IsAscii-cons}
use Rattle.std.specs.Char.{digit_char, digit_value, is_ascii_graphic}
use Rattle.std.specs.List.{list_all}
use Rattle.std.specs.Str.{is_utf8}
use Rattle.dmap_tags.specs.Codes.{Four, code_of, code_bytes}
use Rattle.dmap_show.specs.Readable.{AreBytes, IsCode}
use Rattle.dmap_show.specs.Shown.{hex, shown_code}
use Rattle.dmap_show.proofs.Utf8.{graphic_ascii}
use Rattle.dmap_json.specs.Places.{bytes_from_hex, code_from_text}

-- a byte is read back from its two hex digits
byte_again : (b : ℕ) → b < 256 → digit_value (digit_char (b / 16)) * 16 + digit_value (digit_char (b % 16)) ≡ b
byte_again b small =
    let high : digit_value (digit_char (b / 16)) ≡ b / 16 = digit_value-digit_char (b / 16) (omega arith) in
    let low : digit_value (digit_char (b % 16)) ≡ b % 16 = digit_value-digit_char (b % 16) (omega arith) in
    omega arith

pub bytes_again : (bytes : List ℕ) → AreBytes bytes → bytes_from_hex (flat_map hex bytes) ≡ bytes
bytes_again [] h = refl
bytes_again (b ∷ bytes) h = ap₂ (λ (x : ℕ) (xs : List ℕ). x ∷ xs) (byte_again b h.0) (bytes_again bytes h.1)

pub code_are_bytes : (c : Four) → IsCode c → AreBytes (code_bytes c)
code_are_bytes c h = (h.0, (h.1.0, (h.1.1.0, (h.1.1.1, tt))))

-- a code is read back from its text
pub code_again : (c : Four) → IsCode c → code_from_text (shown_code c) ≡ c
code_again c h = elim (cases_Bool (list_all is_ascii_graphic (code_bytes c))) [
  | inl e ↦ rw e refl
  | inr e ↦ rw e (ap code_of (bytes_again (code_bytes c) (code_are_bytes c h)))
]

-- so different bytes have different digits, and different codes different texts
pub one_hex : (xs ys : List ℕ) → AreBytes xs → AreBytes ys → flat_map hex xs ≡ flat_map hex ys → xs ≡ ys
one_hex xs ys h k same = sym (bytes_again xs h) ∙ ap bytes_from_hex same ∙ bytes_again ys k

pub one_code : (c d : Four) → IsCode c → IsCode d → shown_code c ≡ shown_code d → c ≡ d
one_code c d h k same = sym (code_again c h) ∙ ap code_from_text same ∙ code_again d k

-- hex digits are ASCII
digit_small : (n : ℕ) → n < 16 → digit_char n < 128
digit_small n h = grind (arith, nat_tests)

hex_ascii : (bytes : List ℕ) → AreBytes bytes → IsAscii (flat_map hex bytes)
hex_ascii [] h = IsAscii-nil
hex_ascii (b ∷ bytes) h =
    let high : b / 16 < 16 = (let small = h.0 in omega arith) in
    let low : b % 16 < 16 = omega arith in
    IsAscii-cons (digit_char (b / 16)) (digit_char (b % 16) ∷ flat_map hex bytes) (digit_small (b / 16) high)
    (IsAscii-cons (digit_char (b % 16)) (flat_map hex bytes) (digit_small (b % 16) low) (hex_ascii bytes h.1))

pub hex_utf8 : (bytes : List ℕ) → AreBytes bytes → is_utf8 (flat_map hex bytes) ≡ true
hex_utf8 bytes h = is_utf8-from_IsUtf8 (flat_map hex bytes) (IsUtf8-from_ascii (flat_map hex bytes) (hex_ascii bytes h))

pub code_utf8 : (c : Four) → IsCode c → is_utf8 (shown_code c) ≡ true
code_utf8 c h = elim (cases_Bool (list_all is_ascii_graphic (code_bytes c))) [
  | inl e ↦ rw e (is_utf8-from_IsUtf8 _ (IsUtf8-from_ascii _ (graphic_ascii (code_bytes c) e)))
  | inr e ↦ rw e (is_utf8-from_IsUtf8 _ (IsUtf8-from_ascii _ (IsAscii-cons 120 (flat_map hex (code_bytes c)) (omega arith) (hex_ascii (code_bytes c) (code_are_bytes c h)))))
]

third : {a b c d : ℕ} {xs ys : List ℕ} → a ∷ b ∷ xs ≡ c ∷ d ∷ ys → xs ≡ ys
third same = cc

-- if the digits of all bytes begin with those of some, the rest are those of further bytes
rest_after : (bytes all rest : List ℕ) → AreBytes all → flat_map hex bytes ++ rest ≡ flat_map hex all → (others : List ℕ) × (AreBytes others × (rest ≡ flat_map hex others))
rest_after [] all rest k same = (all, (k, same))
rest_after (b ∷ bytes) [] rest k same = absurd (cc)
rest_after (b ∷ bytes) (a ∷ all) rest k same = rest_after bytes all rest k.1 (third same)

none_left : (left others : List ℕ) → 0 < length left → ((b : ℕ) (more : List ℕ) → b < 256 → left ≡ hex b ++ more → ⊥) → AreBytes others → left ≡ flat_map hex others → ⊥
none_left left [] some stops k e = absurd (let none = ap length e in omega arith)
none_left left (a ∷ others) some stops k e = stops a (flat_map hex others) k.0 e

pub no_bytes : (bytes left all : List ℕ) → 0 < length left → ((b : ℕ) (more : List ℕ) → b < 256 → left ≡ hex b ++ more → ⊥) → AreBytes all → flat_map hex bytes ++ left ≡ flat_map hex all → ⊥
no_bytes bytes left all some stops k same = let rest = rest_after bytes all left k same in none_left left rest.0 some stops rest.1.0 rest.1.1

-- one byte more
pub bytes_more : (bytes : List ℕ) (b : ℕ) → AreBytes bytes → b < 256 → AreBytes (bytes ++ b ∷ [])
bytes_more [] b h small = (small, tt)
bytes_more (x ∷ bytes) b h small = (h.0, bytes_more bytes b h.1 small)

pub hex_more : (bytes : List ℕ) (b : ℕ) (rest : List ℕ) → flat_map hex (bytes ++ b ∷ []) ++ rest ≡ flat_map hex bytes ++ (hex b ++ rest)
hex_more [] b rest = refl
hex_more (x ∷ bytes) b rest = ap (λ s. digit_char (x / 16) ∷ digit_char (x % 16) ∷ s) (hex_more bytes b rest)

-- a code written as its characters is never written as hex digits
pub graphic_hex : (digits : List ℕ) (b c : Four) → IsCode b → IsCode c → digits ≡ flat_map hex (code_bytes b) → digits ≡ flat_map hex (code_bytes c)
    → list_all is_ascii_graphic (code_bytes b) ≡ true → list_all is_ascii_graphic (code_bytes c) ≡ false → ⊥
graphic_hex digits b c h k e f graphic other =
    let same : code_bytes b ≡ code_bytes c = one_hex (code_bytes b) (code_bytes c) (code_are_bytes b h) (code_are_bytes c k) (sym e ∙ f) in
    true≢false (sym graphic ∙ ap (list_all is_ascii_graphic) same ∙ other)

-- the code of a text of four characters, or of nine
long_short : (a b c d : ℕ) (xs : List ℕ) → a ∷ b ∷ c ∷ d ∷ [] ≡ 120 ∷ xs → length xs ≡ 8 → ⊥
long_short a b c d xs e n = let lengths : 4 ≡ suc (length xs) = ap length e in omega arith

pub graphic_code : (text : List ℕ) (b c : Four) → IsCode c → text ≡ code_bytes b → text ≡ shown_code c → (list_all is_ascii_graphic (code_bytes b) ≡ true)
graphic_code text b c k e f = elim (cases_Bool (list_all is_ascii_graphic (code_bytes c))) [
  | inl t ↦ (let same : text ≡ code_bytes c = (rw t at f) in ap (list_all is_ascii_graphic) (sym e ∙ same) ∙ t)
  | inr t ↦ absurd (let other : text ≡ 120 ∷ flat_map hex (code_bytes c) = (rw t at f) in long_short b.0 b.1 b.2 b.3 (flat_map hex (code_bytes c)) (sym e ∙ other) refl)
]

pub graphic_shown : (b : Four) → list_all is_ascii_graphic (code_bytes b) ≡ true → shown_code b ≡ code_bytes b
graphic_shown b t = rw t refl

pub hex_shown : (b : Four) → list_all is_ascii_graphic (code_bytes b) ≡ false → shown_code b ≡ 120 ∷ flat_map hex (code_bytes b)
hex_shown b t = rw t refl

pub graphic_case : (text : List ℕ) (b : Four) (r : Option Four) → IsCode b → text ≡ code_bytes b → r ≡ (if list_all is_ascii_graphic (code_bytes b) then Some b else None)
    → MatchOption r ((c : Four) → IsCode c → text ≡ shown_code c → ⊥) (λ c. IsCode c × (text ≡ shown_code c))
graphic_case text b r h e is = elim (cases_Bool (list_all is_ascii_graphic (code_bytes b))) [
  | inl t ↦ (let some : r ≡ Some b = (rw t at is) in rw some (h, e ∙ sym (graphic_shown b t)))
  | inr t ↦ (let none : r ≡ None = (rw t at is) in rw none (λ c k f. true≢false (sym (graphic_code text b c k e f) ∙ t)))
]

tail_of : {x y : ℕ} {xs ys : List ℕ} → x ∷ xs ≡ y ∷ ys → xs ≡ ys
tail_of e = cc

no_long : (c : Four) (digits : List ℕ) → length digits ≢ 3 → 120 ∷ digits ≡ shown_code c → (list_all is_ascii_graphic (code_bytes c) ≡ false) × (digits ≡ flat_map hex (code_bytes c))
no_long c digits other e = elim (cases_Bool (list_all is_ascii_graphic (code_bytes c))) [
  | inl t ↦ absurd (let same : 120 ∷ digits ≡ code_bytes c = e ∙ graphic_shown c t in let lengths : suc (length digits) ≡ 4 = ap length same in other (omega arith))
  | inr t ↦ (t, tail_of (e ∙ hex_shown c t))
]

pub hex_case : (text digits : List ℕ) (r : Option Four) → length digits ≢ 3 → text ≡ 120 ∷ digits
    → MatchOption r ((c : Four) → IsCode c → list_all is_ascii_graphic (code_bytes c) ≡ false → digits ≡ flat_map hex (code_bytes c) → ⊥)
    (λ c. IsCode c × ((list_all is_ascii_graphic (code_bytes c) ≡ false) × (digits ≡ flat_map hex (code_bytes c))))
    → MatchOption r ((c : Four) → IsCode c → text ≡ shown_code c → ⊥) (λ c. IsCode c × (text ≡ shown_code c))
hex_case text digits None other e none = λ c h f. (let parts = no_long c digits other (sym e ∙ f) in none c h parts.0 parts.1)
hex_case text digits (Some c) other e h = (h.0, e ∙ ap (λ xs. 120 ∷ xs) h.1.1 ∙ sym (hex_shown c h.1.0))

-- the text of a code has four characters, or nine of which the first is an x
pub no_shown : (text : List ℕ) (c : Four) → length text ≢ 4 → get_or text 0 0 ≢ 120 → text ≡ shown_code c → ⊥
no_shown text c four first e = elim (cases_Bool (list_all is_ascii_graphic (code_bytes c))) [
  | inl t ↦ four (ap length (e ∙ graphic_shown c t))
  | inr t ↦ first (ap (λ xs. get_or xs 0 0) (e ∙ hex_shown c t))
]

-- eight digits are those of four bytes
pub four_again : (a b c d e f g h w x y z : ℕ) → a ∷ b ∷ [] ≡ hex w → c ∷ d ∷ [] ≡ hex x → e ∷ f ∷ [] ≡ hex y → g ∷ h ∷ [] ≡ hex z
    → a ∷ b ∷ c ∷ d ∷ e ∷ f ∷ g ∷ h ∷ [] ≡ flat_map hex (w ∷ x ∷ y ∷ z ∷ [])
four_again a b c d e f g h w x y z p q r s = ap₂ (λ (u v : List ℕ). u ++ v) p (ap₂ (λ (u v : List ℕ). u ++ v) q (ap₂ (λ (u v : List ℕ). u ++ v) r s))

pub eight : (xs : List ℕ) → length xs ≡ 8 → xs ≡ get_or xs 0 0 ∷ get_or xs 1 0 ∷ get_or xs 2 0 ∷ get_or xs 3 0 ∷ get_or xs 4 0 ∷ get_or xs 5 0 ∷ get_or xs 6 0 ∷ get_or xs 7 0 ∷ []
eight [] n = absurd (omega arith)
eight (a ∷ []) n = absurd (omega arith)
eight (a ∷ b ∷ []) n = absurd (omega arith)
eight (a ∷ b ∷ c ∷ []) n = absurd (omega arith)
eight (a ∷ b ∷ c ∷ d ∷ []) n = absurd (omega arith)
eight (a ∷ b ∷ c ∷ d ∷ e ∷ []) n = absurd (omega arith)
eight (a ∷ b ∷ c ∷ d ∷ e ∷ f ∷ []) n = absurd (omega arith)
eight (a ∷ b ∷ c ∷ d ∷ e ∷ f ∷ g ∷ []) n = absurd (omega arith)
eight (a ∷ b ∷ c ∷ d ∷ e ∷ f ∷ g ∷ h ∷ []) n = refl
eight (a ∷ b ∷ c ∷ d ∷ e ∷ f ∷ g ∷ h ∷ i ∷ xs) n = absurd (omega arith)

-- the numbers in a slice of bytes are below 256
pub bytes_held : (bytes : List ℕ) → ((i : ℕ) → get_or bytes i 0 < 256) → AreBytes bytes
bytes_held [] h = tt
bytes_held (b ∷ bytes) h = (h 0, bytes_held bytes (λ i. h (suc i)))
