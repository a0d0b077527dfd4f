-- Scripts: lines that each end with a line feed. A line opens a new connection, with a number from 1 to 64, or names
-- one that an earlier line opened.
use Rattle.std.specs.Prelude.{◌≡◌, ℕ, ◌+◌, get_or, List, [], ◌∷◌, ◌++◌, Bool, true, false, ◌==◌, ◌&&◌, not, Option, Some, None, Result, Ok, Err, if◌then◌else◌}
use Rattle.std.specs.Int.{is_in_range}
use Rattle.std.specs.List.{list_any}
use Rattle.share_replay.specs.declared.delivery.Delivery.{Delivery}
use Rattle.share_replay.specs.declared.delivery.Delivery.TheVariants.{Open, Text, Close}
use Rattle.share_replay.specs.Lines.{line_tells}

-- The lines of a text that end with a line feed, and the bytes after the last of them.
abbrev pub longer : ℕ → List (List ℕ) × List ℕ → List (List ℕ) × List ℕ
longer b ([], last) = ([], b ∷ last)
longer b (line ∷ lines, last) = ((b ∷ line) ∷ lines, last)

abbrev pub lines_in : List ℕ → List (List ℕ) × List ℕ
lines_in [] = ([], [])
lines_in (b ∷ text) = if b == 10 then ([] ∷ (lines_in text).0, (lines_in text).1) else longer b (lines_in text)

abbrev pub opens_number : ℕ → Delivery → Bool
opens_number number (Open other role) = other == number
opens_number number (Text other bytes) = false
opens_number number (Close other) = false

-- Whether the lines before opened the connection.
abbrev pub is_opened : List Delivery → ℕ → Bool
is_opened before number = list_any (opens_number number) before

-- Whether the line may follow those before.
abbrev pub may_follow : List Delivery → Delivery → Bool
may_follow before (Open number role) = is_in_range 1 64 number && not (is_opened before number)
may_follow before (Text number bytes) = is_opened before number
may_follow before (Close number) = is_opened before number

-- Each of these lines may follow those before it.
abbrev pub may_all_follow : List Delivery → List Delivery → Bool
may_all_follow before [] = true
may_all_follow before (d ∷ ds) = may_follow before d && may_all_follow (before ++ d ∷ []) ds

-- The reading of lines after those `before`: all of them, or the number of the first bad one. `line` is the number of
-- the first line.
abbrev pub then_read : List Delivery → Option Delivery → ℕ → Result (List Delivery) ℕ → Result (List Delivery) ℕ
then_read before None line rest = Err line
then_read before (Some d) line rest = if may_follow before d then rest else Err line

abbrev pub with_told : List Delivery → Option Delivery → List Delivery
with_told before None = before
with_told before (Some d) = before ++ d ∷ []

abbrev pub lines_read : List Delivery → ℕ → List (List ℕ) → List ℕ → Result (List Delivery) ℕ
lines_read before line [] [] = Ok before
lines_read before line [] (b ∷ last) = Err line
lines_read before line (text ∷ texts) last =
    then_read before (line_tells text) line (lines_read (with_told before (line_tells text)) (line + 1) texts last)

-- The script of a text, or the number of its first bad line, counted from 1.
abbrev pub script_of : List ℕ → Result (List Delivery) ℕ
script_of text = lines_read [] 1 (lines_in text).0 (lines_in text).1

-- The flags say which numbers were opened.
abbrev pub AreOpened : List Bool → List Delivery → Type 0
AreOpened flags before = (number : ℕ) → get_or flags number false ≡ is_opened before number
