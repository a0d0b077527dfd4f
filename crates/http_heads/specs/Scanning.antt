-- The search for the end of a framed head, byte by byte: the state, and the step for one byte.
use Rattle.std.specs.Prelude.{ℕ, suc, List, [], ◌∷◌, Option, Some, None, ◌==◌, option_and_then, if◌then◌else◌}
use Rattle.http_heads.specs.declared.scanning.Begun.{Begun}
use Rattle.http_heads.specs.declared.scanning.Begun.TheVariants.{Nothing, Return, Text}
use Rattle.http_heads.specs.declared.scanning.Scan.{Scan}

-- before the first byte
abbrev pub start : Scan
start = record { full = 0; begun = Nothing }

-- the start of a line after a byte that does not end it
abbrev pub begun_with : Begun → ℕ → Begun
begun_with Nothing b = if b == 13 then Return else Text
begun_with Return b = Text
begun_with Text b = Text

-- at a line's end: an empty line after a full one ends the head
abbrev pub at_line_end : Begun → ℕ → Option Scan
at_line_end Nothing full = if full == 0 then Some start else None
at_line_end Return full = if full == 0 then Some start else None
at_line_end Text full = Some (record { full = suc full; begun = Nothing })

-- `None` if the byte ends the head
abbrev pub after_byte : Scan → ℕ → Option Scan
after_byte s b = if b == 10 then at_line_end s.begun s.full else Some (record { full = s.full; begun = begun_with s.begun b })

abbrev pub after : Scan → List ℕ → Option Scan
after s [] = Some s
after s (b ∷ bs) = option_and_then (λ t. after t bs) (after_byte s b)
