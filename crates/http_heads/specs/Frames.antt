-- Where a head ends, whatever it says. Each line feed closes a line, and a carriage return right before it belongs to
-- the line's end. A framed head is empty lines, then lines that are not empty, and one empty line.
use Rattle.std.specs.Prelude.{◌≡◌, ◌≢◌, ℕ, List, [], ◌∷◌, ◌++◌, length, Bool, true, false, not, ◌&&◌, ◌==◌}
use Rattle.std.specs.List.{flat_map, list_all}

-- no byte of it ends a line
abbrev pub is_line : List ℕ → Bool
is_line line = list_all (λ b. not (b == 10)) line

abbrev pub has_no_byte : List ℕ → Bool
has_no_byte [] = true
has_no_byte (b ∷ bs) = false

-- nothing, or only a carriage return
abbrev pub is_empty_line : List ℕ → Bool
is_empty_line [] = true
is_empty_line (b ∷ bs) = (b == 13) && has_no_byte bs

abbrev pub is_full_line : List ℕ → Bool
is_full_line line = is_line line && not (is_empty_line line)

abbrev pub print_line : List ℕ → List ℕ
print_line line = line ++ 10 ∷ []

abbrev pub print_lines : List (List ℕ) → List ℕ
print_lines lines = flat_map print_line lines

-- the lines of a framed head, without their line feeds
pub record Frame : Type 0 where
  pub blank : List (List ℕ)
  pub full : List (List ℕ)
  pub last : List ℕ

abbrev pub print_frame : Frame → List ℕ
print_frame f = print_lines f.blank ++ (print_lines f.full ++ print_line f.last)

pub record IsFrame (f : Frame) : Type 0 where
  pub blank : list_all is_empty_line f.blank ≡ true
  pub full : list_all is_full_line f.full ≡ true
  pub some : f.full ≢ []
  pub last : is_empty_line f.last ≡ true

-- the bytes are a framed head with `lines` lines that are not empty
abbrev pub IsFramed : List ℕ → ℕ → Type 0
IsFramed bytes lines = (f : Frame) × IsFrame f × (bytes ≡ print_frame f) × (lines ≡ length f.full)

-- the bytes do not begin with a framed head
abbrev pub HasNoFrame : List ℕ → Type 0
HasNoFrame bytes = (front rest : List ℕ) (lines : ℕ) → bytes ≡ front ++ rest → IsFramed front lines → ⊥
