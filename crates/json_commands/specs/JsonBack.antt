-- The command `json --back`: the bytes of the tags that the lines of the input read as.
use Rattle.std.specs.Prelude.{◌≡◌, ◌≢◌, ◌≤◌, ◌⊎◌, ◌+◌, ◌++◌, ◌∷◌, [], ℕ, zero, suc, List, true, false, codes, decimal}
use Rattle.std.specs.Str.{is_utf8}
use Rattle.dmap_tags.specs.Spelling.{spelling, spellings}
use Rattle.dmap_tags.specs.Tree.{Tree, trees_of}
use Rattle.code_table.specs.Standard.{standard_rows}
use Rattle.dmap_show.specs.TextLines.{before, behind, has}
use Rattle.dmap_json.specs.Reads.{Reads}
use Rattle.dmap_json.specs.Faults.{Explains}
use Rattle.dmap_json.specs.declared.error.JsonError.{JsonError}
use Rattle.dmap_json.specs.declared.error.JsonError.TheVariants as json
use Rattle.command_core.specs.declared.fault.Fault.{Fault}
use Rattle.command_core.specs.declared.fault.Fault.TheVariants as fault
use Rattle.command_core.specs.Seen.{InputSeen}
use Rattle.command_core.specs.Causes.{Cause, OfInput, StopsBy}
use Rattle.command_core.specs.Meanings.{Meaning, writes_nothing_before, leaves_no_share, may_read, says_no_more}
use Rattle.json_commands.specs.declared.json_back.LineFault.{LineFault}
use Rattle.json_commands.specs.declared.json_back.LineFault.TheVariants.{Line, TooLong}
use Rattle.json_commands.specs.Whole.{IsWithin, IsTooLong, IsGiven}

-- a line, without its line feed, that reads as a tag of the standard table
abbrev pub IsJsonLine : List ℕ → Tree → Type 0
IsJsonLine line t = (is_utf8 line ≡ true) × Reads standard_rows line t

-- the lines of a text, each with its line feed, read as these tags
abbrev pub AreJsonLines : List Tree → List ℕ → Type 0
AreJsonLines [] text = text ≡ []
AreJsonLines (t ∷ ts) text = (has 10 text ≡ true) × (IsJsonLine (before 10 text) t × AreJsonLines ts (behind 10 text))

-- the lines read as tags, and the output is their bytes
pub record GivesTags (text output : List ℕ) : Type 0 where
  pub tags : List Tree
  pub lines : AreJsonLines tags text
  pub spelled : output ≡ spellings (trees_of tags)

-- the first line of `text` reads as a tag, whose encoding is appended to `bytes`
pub record TakesLine (text rest bytes more : List ℕ) : Type 0 where
  pub tag : Tree
  pub ended : has 10 text ≡ true
  pub line : IsJsonLine (before 10 text) tag
  pub rest_is : rest ≡ behind 10 text
  pub added : more ≡ bytes ++ spelling tag

-- a line that does not read as a tag
abbrev pub IsNoTag : List ℕ → Type 0
IsNoTag line = (is_utf8 line ≡ false) ⊎ ((is_utf8 line ≡ true) × ((e : JsonError) × ((e ≢ json.Memory) × Explains standard_rows line e)))

-- n lines read as tags, and the next has no line feed or does not read as one
abbrev pub StopsAfter : ℕ → List ℕ → Type 0
StopsAfter zero text = (text ≢ []) × ((has 10 text ≡ false) ⊎ ((has 10 text ≡ true) × IsNoTag (before 10 text)))
StopsAfter (suc n) text = (has 10 text ≡ true) × (((t : Tree) × IsJsonLine (before 10 text) t) × StopsAfter n (behind 10 text))

-- `line`, counted from 1, is the first that is refused
abbrev pub StopsOn : ℕ → List ℕ → Type 0
StopsOn line text = (n : ℕ) × ((line ≡ n + 1) × StopsAfter n text)

pub record IsRefused (line : ℕ) (input : List ℕ) : Type 0 where
  pub within : IsWithin input
  pub stops : StopsOn line input

abbrev pub line_text : LineFault → List ℕ
line_text (Line line) = codes "json: line " ++ decimal line ++ 10 ∷ []
line_text TooLong = codes "limit: input" ++ 10 ∷ []

abbrev pub line_status : LineFault → ℕ
line_status (Line line) = 3
line_status TooLong = 8

abbrev pub line_cause : LineFault → Cause
line_cause (Line line) = OfInput (1 ≤ line) (IsRefused line)
line_cause TooLong = OfInput (Unit {0}) IsTooLong

abbrev pub json_back_meaning : Meaning
json_back_meaning = record {
  fault = LineFault;
  line = line_text;
  status = line_status;
  cause = line_cause;
  reads_on = IsWithin;
  gives = λ input. IsWithin input × ((output : List ℕ) × GivesTags input output);
  is_done = λ before after share output. IsGiven GivesTags before.input after.input share output;
  is_begun = λ before after share output. IsGiven GivesTags before.input after.input share output;
  is_front = writes_nothing_before;
  leaves = leaves_no_share;
  may_want = may_read;
  always = says_no_more;
}

-- why the command stops; an allocation may fail at any time
abbrev pub StopsBack : InputSeen → InputSeen → Fault LineFault → Type 0
StopsBack before after stop = StopsBy line_cause IsWithin (Unit {0}) before after stop

-- the error of a text
abbrev pub IsLinesFault : List ℕ → Fault LineFault → Type 0
IsLinesFault text (fault.Own (Line line)) = StopsOn line text
IsLinesFault text (fault.Own TooLong) = ⊥
IsLinesFault text fault.Read = ⊥
IsLinesFault text fault.Memory = Unit {0}
