-- The command `show --back`: the bytes of the tags that the input's text shows.
use Rattle.std.specs.Prelude.{◌≡◌, ◌+◌, ◌==◌, ◌<◌, ◌≤◌, ◌⊎◌, ◌++◌, ◌∷◌, [], ℕ, List, length, take, filter, true, false, codes, decimal}
use Rattle.std.specs.Io.KnownBytes.{Consumes, IsAtEnd}
use Rattle.std.specs.Str.{is_utf8}
use Rattle.std.specs.Str.Lossy.{utf8_valid_len}
use Rattle.dmap_tags.specs.Spelling.{spellings}
use Rattle.dmap_tags.specs.Tree.{Tree, trees_of}
use Rattle.code_table.specs.Standard.{standard_rows}
use Rattle.dmap_show.specs.Readable.{Shows}
use Rattle.dmap_show.specs.TextLines.{Explains}
use Rattle.dmap_show.specs.declared.reading.ShowError.{ShowError}
use Rattle.dmap_show.specs.declared.reading.ShowError.TheVariants as show
use Rattle.command_core.specs.declared.fault.Fault.{Fault}
use Rattle.command_core.specs.declared.fault.Fault.TheVariants as fault
use Rattle.command_core.specs.Seen.{InputSeen, ShareSeen, no_share}
use Rattle.command_core.specs.Causes.{Cause, OfInput, StopsBy}
use Rattle.command_core.specs.Meanings.{Meaning, writes_nothing_before, leaves_no_share, may_read, says_no_more}
use Rattle.tag_commands.specs.declared.show_back.TextFault.{TextFault}
use Rattle.tag_commands.specs.declared.show_back.TextFault.TheVariants.{Line, TooLong}

-- the limit of the text: 64 MiB
abbrev pub shown_text_limit : ℕ
shown_text_limit = 67108864

abbrev pub IsWithin : List ℕ → Type 0
IsWithin bytes = length bytes ≤ shown_text_limit

-- the input, within its limit, is a text that shows these tags of the standard table
pub record ShowsBack (tags : List Tree) (input : List ℕ) : Type 0 where
  pub within : IsWithin input
  pub text : is_utf8 input ≡ true
  pub shows : Shows standard_rows input tags

-- the line of an offset, counted from 1
abbrev pub line_at : ℕ → List ℕ → ℕ
line_at place text = 1 + length (filter (λ byte. byte == 10) (take place text))

-- the line of the first byte that is not UTF-8, or else the first line with which no shown text continues
abbrev pub StopsOn : (line : ℕ) → (input : List ℕ) → Type 0
StopsOn line input =
    ((is_utf8 input ≡ false) × (line ≡ line_at (utf8_valid_len input) input))
    ⊎ ((is_utf8 input ≡ true) × Explains standard_rows input (show.Line line))

-- the input is within its limit, and its text is refused on that line
pub record IsTextRefused (line : ℕ) (input : List ℕ) : Type 0 where
  pub within : IsWithin input
  pub stops : StopsOn line input

-- the input was read to its end, without an error, and shows the tags whose bytes are the output
pub record IsShownBack (before after : InputSeen) (share : ShareSeen) (output : List ℕ) : Type 0 where
  pub bytes : List ℕ
  pub read : Consumes before.left after.left bytes
  pub end : IsAtEnd after.left
  pub faultless : after.faults ≡ before.faults
  pub tags : List Tree
  pub back : ShowsBack tags bytes
  pub unopened : share ≡ no_share
  pub written : output ≡ spellings (trees_of tags)

abbrev pub text_line : TextFault → List ℕ
text_line (Line line) = codes "text: line " ++ decimal line ++ 10 ∷ []
text_line TooLong = codes "limit: input" ++ 10 ∷ []

abbrev pub text_status : TextFault → ℕ
text_status (Line line) = 3
text_status TooLong = 8

-- lines count from 1
abbrev pub text_cause : TextFault → Cause
text_cause (Line line) = OfInput (1 ≤ line) (IsTextRefused line)
text_cause TooLong = OfInput (Unit {0}) (λ input. shown_text_limit < length input)

abbrev pub show_back_meaning : Meaning
show_back_meaning = record {
  fault = TextFault;
  line = text_line;
  status = text_status;
  cause = text_cause;
  reads_on = IsWithin;
  gives = λ input. (tags : List Tree) × ShowsBack tags input;
  is_done = λ before after share output. IsShownBack before.input after.input share output;
  is_begun = λ before after share output. IsShownBack before.input after.input share output;
  is_front = writes_nothing_before;
  leaves = leaves_no_share;
  may_want = may_read;
  always = says_no_more;
}

-- reading stops so; an allocation may fail at any time
abbrev pub StopsReading : InputSeen → InputSeen → Fault TextFault → Type 0
StopsReading before after stop = StopsBy text_cause IsWithin (Unit {0}) before after stop

-- the error of a text that shows no tags
abbrev pub IsTextFault : List ℕ → Fault TextFault → Type 0
IsTextFault input (fault.Own (Line line)) = StopsOn line input
IsTextFault input (fault.Own TooLong) = ⊥
IsTextFault input fault.Read = ⊥
IsTextFault input fault.Memory = Unit {0}

-- the errors for refusals of the text
abbrev pub show_fault : ShowError → Fault TextFault
show_fault (show.Line line) = fault.Own (Line line)
show_fault show.Memory = fault.Memory
