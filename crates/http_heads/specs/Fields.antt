-- What the fields of a head say of its body and of the connection (RFC 9112, sections 6 and 9). Fields are pairs of a
-- name and a value. Names are compared without case, and values have no white space around them.
use Rattle.std.specs.Prelude.{ℕ, List, [], ◌∷◌, length, map, Bool, true, false, ◌&&◌, ◌||◌, ◌==◌, nat_le, Option, Some, None, Result, Ok, Err, codes, if◌then◌else◌}
use Rattle.std.specs.Char.{is_ascii_digit}
use Rattle.std.specs.Int.{is_in_range}
use Rattle.std.specs.List.{list_all, list_any, slice_split}
use Rattle.std.specs.Str.{str_eq_ignore_ascii_case}
use Rattle.std.specs.Str.Parse.{digits_value}
use Rattle.httparse.specs.Grammar.{Field, trim_ows}
use Rattle.httparse.specs.Spans.{name_and_value}
use Rattle.http_heads.specs.declared.refusal.HeadError.{HeadError}
use Rattle.http_heads.specs.declared.refusal.HeadError.TheVariants.{Length, BodyTooLarge}
use Rattle.http_heads.specs.Limits.{body_limit, digit_limit, reply_limit}

abbrev pub Pairs : Type 0
Pairs = List (List ℕ × List ℕ)

abbrev pub fields_of : List Field → Pairs
fields_of fields = map name_and_value fields

-- the values of the fields called `name`, in order
abbrev pub values : List ℕ → Pairs → List (List ℕ)
values name [] = []
values name (f ∷ fs) = if str_eq_ignore_ascii_case f.0 name then f.1 ∷ values name fs else values name fs

abbrev pub is_there : List (List ℕ) → Bool
is_there [] = false
is_there (v ∷ vs) = true

-- the number written by 1 to 20 decimal digits
unfoldable pub number_of : List ℕ → Option ℕ
number_of text = if is_in_range 1 digit_limit (length text) && list_all is_ascii_digit text then Some (digits_value 10 text) else None

-- the length in the only field, or `absent` without a field
abbrev pub told_length : Option ℕ → List (List ℕ) → Option ℕ
told_length absent [] = absent
told_length absent (v ∷ []) = number_of v
told_length absent (v ∷ w ∷ vs) = None

abbrev pub within_limit : Option ℕ → Result ℕ HeadError
within_limit None = Err Length
within_limit (Some n) = if nat_le n body_limit then Ok n else Err BodyTooLarge

-- the length of a request's body; 0 without a field
abbrev pub body_length : Pairs → Result ℕ HeadError
body_length fields =
    if is_there (values (codes "transfer-encoding") fields) then Err Length
    else within_limit (told_length (Some 0) (values (codes "content-length") fields))

abbrev pub unless_long : Option ℕ → Option ℕ
unless_long None = None
unless_long (Some n) = if nat_le n reply_limit then Some n else None

-- a reply without content needs no length
abbrev pub untold_length : ℕ → Option ℕ
untold_length status = if status == 204 then Some 0 else None

-- the length of a reply's body, or `None` if the fields state no valid one
abbrev pub reply_length : ℕ → Pairs → Option ℕ
reply_length status fields =
    if is_there (values (codes "transfer-encoding") fields) then None
    else unless_long (told_length (untold_length status) (values (codes "content-length") fields))

-- whether a part between commas is the token `close`, without case
abbrev pub has_close : List ℕ → Bool
has_close value = list_any (λ part. str_eq_ignore_ascii_case (trim_ows part) (codes "close")) (slice_split (λ b. b == 44) value)

-- whether the connection closes after the reply
abbrev pub asks_to_close : ℕ → Pairs → Bool
asks_to_close minor fields = minor == 0 || list_any has_close (values (codes "connection") fields)
