-- The lines of a script. `open N listen` and `open N edit` open a connection, `text N T` delivers the bytes that the
-- text T encodes, and `close N` ends the input of a connection. One space separates two words.
use Rattle.std.specs.Prelude.{ℕ, ◌+◌, ◌-◌, ◌*◌, List, [], ◌∷◌, codes, ◌==◌, ◌&&◌, Option, Some, None, option_map, if◌then◌else◌}
use Rattle.std.specs.Char.{is_ascii_digit}
use Rattle.std.specs.Int.{is_in_range}
use Rattle.std.specs.Option.{option_and_then}
use Rattle.std.specs.Str.{bytes_eq}
use Rattle.share_asks.specs.declared.ask.Role.{Role}
use Rattle.share_asks.specs.declared.ask.Role.TheVariants.{Listen, Edit}
use Rattle.share_replay.specs.declared.delivery.Delivery.{Delivery}
use Rattle.share_replay.specs.declared.delivery.Delivery.TheVariants.{Open, Text, Close}

-- ---- Texts. A byte from 20 to 7e hex encodes itself, except the backslash, which begins `\r`, `\n`, `\\` and `\x`
-- with two hex digits of either case.

abbrev pub hex_value : ℕ → Option ℕ
hex_value b =
    if is_in_range 48 57 b then Some (b - 48) else (if is_in_range 65 70 b then Some (b - 55)
    else (if is_in_range 97 102 b then Some (b - 87) else None))

abbrev pub hex_byte : Option ℕ → Option ℕ → Option ℕ
hex_byte None low = None
hex_byte (Some high) None = None
hex_byte (Some high) (Some low) = Some (high * 16 + low)

-- The byte of an escape without digits.
abbrev pub escape_of : ℕ → Option ℕ
escape_of b = if b == 114 then Some 13 else (if b == 110 then Some 10 else (if b == 92 then Some 92 else None))

abbrev pub plain_byte : ℕ → Option ℕ
plain_byte b = if is_in_range 32 126 b then Some b else None

-- A byte before others.
abbrev pub in_front : Option ℕ → Option (List ℕ) → Option (List ℕ)
in_front None bytes = None
in_front (Some b) None = None
in_front (Some b) (Some bytes) = Some (b ∷ bytes)

abbrev mutual
  pub written_by : List ℕ → Option (List ℕ)
  written_by [] = Some []
  written_by (b ∷ text) = if b == 92 then escaped_by text else in_front (plain_byte b) (written_by text)

  -- after a backslash
  pub escaped_by : List ℕ → Option (List ℕ)
  escaped_by [] = None
  escaped_by (b ∷ text) = if b == 120 then digits_by text else in_front (escape_of b) (written_by text)

  -- after `\x`
  pub digits_by : List ℕ → Option (List ℕ)
  digits_by [] = None
  digits_by (high ∷ []) = None
  digits_by (high ∷ low ∷ text) = in_front (hex_byte (hex_value high) (hex_value low)) (written_by text)

-- ---- Numbers of connections: one or two digits, the first not zero.

abbrev pub two_digits : ℕ → ℕ → Option ℕ
two_digits a b = if is_in_range 49 57 a && is_ascii_digit b then Some ((a - 48) * 10 + (b - 48)) else None

abbrev pub number_in : List ℕ → Option ℕ
number_in [] = None
number_in (a ∷ []) = if is_in_range 49 57 a then Some (a - 48) else None
number_in (a ∷ b ∷ []) = two_digits a b
number_in (a ∷ b ∷ c ∷ more) = None

-- ---- Words and lines.

-- The bytes before the first byte with the value `mark`, and those after it, if it occurs.
abbrev pub before : ℕ → List ℕ → List ℕ
before mark [] = []
before mark (b ∷ line) = if b == mark then [] else b ∷ before mark line

abbrev pub behind : ℕ → List ℕ → Option (List ℕ)
behind mark [] = None
behind mark (b ∷ line) = if b == mark then Some line else behind mark line

abbrev pub first_word : List ℕ → List ℕ
first_word line = before 32 line

abbrev pub other_words : List ℕ → Option (List ℕ)
other_words line = behind 32 line

abbrev pub role_in : List ℕ → Option Role
role_in word = if bytes_eq word (codes "listen") then Some Listen else (if bytes_eq word (codes "edit") then Some Edit else None)

abbrev pub opens : Option ℕ → Option Role → Option Delivery
opens None role = None
opens (Some number) None = None
opens (Some number) (Some role) = Some (Open number role)

abbrev pub delivers : Option ℕ → Option (List ℕ) → Option Delivery
delivers None bytes = None
delivers (Some number) None = None
delivers (Some number) (Some bytes) = Some (Text number bytes)

-- The delivery of a line, from what follows the word `open`, `text` or `close`.
abbrev pub open_told : List ℕ → Option Delivery
open_told line = opens (number_in (first_word line)) (option_and_then role_in (other_words line))

abbrev pub text_told : List ℕ → Option Delivery
text_told line = delivers (number_in (first_word line)) (option_and_then written_by (other_words line))

abbrev pub close_told : List ℕ → Option Delivery
close_told line = option_map Close (number_in line)

abbrev pub told_behind : List ℕ → List ℕ → Option Delivery
told_behind word line =
    if bytes_eq word (codes "open") then open_told line
    else (if bytes_eq word (codes "text") then text_told line
    else (if bytes_eq word (codes "close") then close_told line else None))

-- The delivery of a line without its line feed.
abbrev pub line_tells : List ℕ → Option Delivery
line_tells line = option_and_then (told_behind (first_word line)) (other_words line)
