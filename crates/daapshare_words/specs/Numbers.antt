-- A number among the arguments: one to ten decimal digits, leading zeros included, and no other byte. It is at most
-- 4,294,967,295.
use Rattle.std.specs.Prelude.{◌≤◌, ◌&&◌, ℕ, Bool, true, false, Option, Some, None, if◌then◌else◌, length, nat_le, option_and_then, option_map}
use Rattle.std.specs.Char.{is_ascii_digit}
use Rattle.std.specs.List.{list_all}
use Rattle.std.specs.Str.Parse.{digits_value}
use Rattle.clap.specs.Words.{Text}

abbrev pub is_number_word : Text → Bool
is_number_word word =
    nat_le 1 (length word) && (nat_le (length word) 10 && list_all is_ascii_digit word)

-- the number that the digits represent, if it is in range
abbrev pub number_of_word : Text → Option ℕ
number_of_word word =
    if is_number_word word && nat_le (digits_value 10 word) 4294967295
    then Some (digits_value 10 word) else None

-- the number that `word` represents, if it is from `least` to `most`
abbrev pub number_within : (least most : ℕ) → Option Text → Option ℕ
number_within least most word =
    option_and_then (λ n. if nat_le least n && nat_le n most then Some n else None) (option_and_then number_of_word word)

-- `n` is from `least` to `most`
abbrev pub IsWithin : (least most n : ℕ) → Type 0
IsWithin least most n = (least ≤ n) × (n ≤ most)

-- the delta window of a share, in revisions: 256 if it is not given
abbrev pub keep_of : Option Text → Option ℕ
keep_of None = Some 256
keep_of (Some word) = number_within 1 65536 (Some word)

-- how many threads serve the connections of players: 16 if it is not given
abbrev pub workers_of : Option Text → Option ℕ
workers_of None = Some 16
workers_of (Some word) = number_within 1 64 (Some word)

-- how many serve those of editors: 1 if a file keeps their edits, otherwise 2 if it is not given
abbrev pub most_editors : (kept : Bool) → ℕ
most_editors true = 1
most_editors false = 8

abbrev pub editors_of : (kept : Bool) → Option Text → Option ℕ
editors_of true None = Some 1
editors_of false None = Some 2
editors_of kept (Some word) = number_within 1 (most_editors kept) (Some word)

-- the id of a container, from 1, or no container if it is not given
abbrev pub list_of : Option Text → Option (Option ℕ)
list_of None = Some None
list_of (Some word) = option_map (λ id. Some id) (number_within 1 4294967295 (Some word))
