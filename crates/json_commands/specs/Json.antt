-- The command `json`: a line of JSON for each top-level tag of the input.
use Rattle.std.specs.Prelude.{◌≡◌, ◌≢◌, ◌⊎◌, ◌++◌, ◌∷◌, [], ℕ, List, length, flat_map, true}
use Rattle.serde_json.specs.Written.{compact_text}
use Rattle.dmap_tags.specs.Spelling.{spelling, spellings}
use Rattle.dmap_tags.specs.Proper.{IsProperTag}
use Rattle.dmap_tags.specs.Tree.{Tree, trees_of}
use Rattle.code_table.specs.Standard.{standard_rows}
use Rattle.dmap_stream.specs.Walk.{Walk, inside, broken, walk_of}
use Rattle.dmap_stream.specs.WholeTag.{is_accepted, AreAccepted}
use Rattle.dmap_stream.specs.declared.refusal.StreamError.{StreamError}
use Rattle.dmap_stream.specs.declared.refusal.StreamError.TheVariants as stream
use Rattle.dmap_json.specs.TagObject.{json_of}
use Rattle.command_core.specs.declared.fault.Fault.{Fault}
use Rattle.command_core.specs.declared.fault.Fault.TheVariants as fault
use Rattle.command_core.specs.Seen.{InputSeen}
use Rattle.command_core.specs.Causes.{Cause, OfInput, StopsBy}
use Rattle.command_core.specs.Meanings.{Meaning, writes_nothing_before, leaves_no_share, may_read, says_no_more}
use Rattle.tag_commands.specs.declared.tags_fault.TagsFault.{TagsFault}
use Rattle.tag_commands.specs.declared.tags_fault.TagsFault.TheVariants as tags
use Rattle.tag_commands.specs.TopTags.{tags_line, tags_status}
use Rattle.json_commands.specs.Whole.{json_limit, IsWithin, IsTooLong, IsGiven}

abbrev pub json_line : Tree → List ℕ
json_line t = compact_text (json_of t) ++ 10 ∷ []

-- a line of JSON for each tag
abbrev pub json_lines : List Tree → List ℕ
json_lines ts = flat_map json_line ts

-- `bytes` begin with a tag, whose line is appended to `lines`
pub record TakesTag (bytes rest lines more : List ℕ) : Type 0 where
  pub tag : Tree
  pub split : bytes ≡ spelling tag ++ rest
  pub accepted : is_accepted standard_rows json_limit tag ≡ true
  pub proper : IsProperTag tag
  pub added : more ≡ lines ++ json_line tag

-- the bytes are top-level tags of the standard table, each within the limit, and the output is their lines
pub record GivesJson (bytes output : List ℕ) : Type 0 where
  pub tags : List Tree
  pub spelled : bytes ≡ spellings (trees_of tags)
  pub accepted : AreAccepted standard_rows json_limit tags
  pub lines : output ≡ json_lines tags

-- the tags of the bytes; a top-level tag may be as long as the input
abbrev pub walk_of_bytes : List ℕ → Walk
walk_of_bytes bytes = walk_of standard_rows json_limit bytes

-- the error of the first malformed tag, or that the bytes end inside a top-level tag
abbrev pub HasTagsFault : StreamError → List ℕ → Type 0
HasTagsFault error bytes = ((walk_of_bytes bytes).ending ≡ broken error) ⊎ (((walk_of_bytes bytes).ending ≡ inside) × (error ≡ stream.Truncated (length bytes)))

pub record IsBroken (error : StreamError) (input : List ℕ) : Type 0 where
  pub within : IsWithin input
  pub broken : HasTagsFault error input

abbrev pub json_cause : TagsFault → Cause
json_cause (tags.Broken error) = OfInput (error ≢ stream.Memory) (IsBroken error)
json_cause tags.TooLong = OfInput (Unit {0}) IsTooLong

abbrev pub json_meaning : Meaning
json_meaning = record {
  fault = TagsFault;
  line = tags_line;
  status = tags_status;
  cause = json_cause;
  reads_on = IsWithin;
  gives = λ input. IsWithin input × ((output : List ℕ) × GivesJson input output);
  is_done = λ before after share output. IsGiven GivesJson before.input after.input share output;
  is_begun = λ before after share output. IsGiven GivesJson before.input after.input share output;
  is_front = writes_nothing_before;
  leaves = leaves_no_share;
  may_want = may_read;
  always = says_no_more;
}

-- why the command stops; an allocation may fail at any time
abbrev pub StopsJson : InputSeen → InputSeen → Fault TagsFault → Type 0
StopsJson before after stop = StopsBy json_cause IsWithin (Unit {0}) before after stop

-- the error of bytes that are not tags
abbrev pub IsTagsFault : List ℕ → Fault TagsFault → Type 0
IsTagsFault bytes (fault.Own (tags.Broken error)) = (error ≢ stream.Memory) × HasTagsFault error bytes
IsTagsFault bytes (fault.Own tags.TooLong) = ⊥
IsTagsFault bytes fault.Read = ⊥
IsTagsFault bytes fault.Memory = Unit {0}
