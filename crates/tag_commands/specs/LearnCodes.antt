-- The command `codes --learn`: the rows of the table that the input, a reply to `/content-codes`, states.
use Rattle.std.specs.Prelude.{◌≡◌, ◌≢◌, ◌⊎◌, ◌++◌, ◌∷◌, [], ℕ, List, length, true, Ok, Err, codes, decimal}
use Rattle.std.specs.Io.KnownBytes.{Consumes, IsAtEnd}
use Rattle.dmap_tags.specs.Spelling.{spelling}
use Rattle.dmap_tags.specs.Tree.{Tree}
use Rattle.dmap_tags.specs.Proper.{IsProperTag}
use Rattle.code_table.specs.declared.reply.CodeError.{CodeError}
use Rattle.code_table.specs.declared.reply.CodeError.TheVariants as table
use Rattle.code_table.specs.declared.row.CodeRow.{CodeRow}
use Rattle.code_table.specs.Reply.{table_of}
use Rattle.code_table.specs.Standard.{standard_rows}
use Rattle.dmap_stream.specs.WholeTag.{is_accepted, refusal}
use Rattle.dmap_stream.specs.declared.refusal.StreamError.{StreamError}
use Rattle.dmap_stream.specs.declared.refusal.StreamError.TheVariants as stream
use Rattle.command_core.specs.declared.fault.Fault.{Fault}
use Rattle.command_core.specs.declared.fault.Fault.TheVariants as fault
use Rattle.command_core.specs.Seen.{InputSeen, ShareSeen, no_share}
use Rattle.command_core.specs.Causes.{Cause, OfInput, StopsBy}
use Rattle.command_core.specs.Meanings.{Meaning, writes_nothing_before, leaves_no_share, may_read, says_no_more}
use Rattle.tag_commands.specs.declared.learn.LearnFault.{LearnFault}
use Rattle.tag_commands.specs.declared.learn.LearnFault.TheVariants.{Broken, Table}
use Rattle.tag_commands.specs.TopTags.{tag_limit, HasNoFault, walk_of_tags, tags_text}
use Rattle.tag_commands.specs.Codes.{code_lines}

-- the bytes begin with a whole tag of the standard table, within the limit of a top tag, and continue with others
pub record BeginsWith (tag : Tree) (rest bytes : List ℕ) : Type 0 where
  pub spelled : bytes ≡ spelling tag ++ rest
  pub accepted : is_accepted standard_rows tag_limit tag ≡ true
  pub proper : IsProperTag tag

-- they begin with no such tag
abbrev pub HasNoTag : List ℕ → Type 0
HasNoTag bytes = (tag : Tree) (rest : List ℕ) → BeginsWith tag rest bytes → ⊥

-- the input is one tag, which states a table of these rows
pub record IsReply (rows : List CodeRow) (input : List ℕ) : Type 0 where
  pub tag : Tree
  pub whole : BeginsWith tag [] input
  pub told : table_of tag ≡ Ok rows

-- the input begins with no whole tag: it has a malformed tag, or it ends too early
pub record HasNoReply (error : StreamError) (input : List ℕ) : Type 0 where
  pub none : HasNoTag input
  pub told : error ≡ refusal (length input) (walk_of_tags input).ending

-- a tag before other bytes states no table, for this reason; or it states one, and is not the whole input
abbrev pub StatesNoTable : (error : CodeError) → (tag : Tree) → (rest : List ℕ) → Type 0
StatesNoTable error tag rest =
    (table_of tag ≡ Err error) ⊎ ((error ≡ table.NotReply) × ((rest ≢ []) × ((rows : List CodeRow) × (table_of tag ≡ Ok rows))))

-- the input begins with such a tag
pub record IsReplyRefused (error : CodeError) (input : List ℕ) : Type 0 where
  pub tag : Tree
  pub rest : List ℕ
  pub whole : BeginsWith tag rest input
  pub refused : StatesNoTable error tag rest

-- the bytes begin with no whole tag yet, and no tag in them is malformed
pub record IsUnfinished (bytes : List ℕ) : Type 0 where
  pub open_ : HasNoTag bytes
  pub sound : HasNoFault bytes

-- nothing in the bytes is refused so far: they are not yet a whole tag, or just a reply
abbrev pub IsReplySoFar : List ℕ → Type 0
IsReplySoFar bytes = IsUnfinished bytes ⊎ ((rows : List CodeRow) × IsReply rows bytes)

-- the input was read to its end, without an error, and is a reply; the output is the table that it states
pub record IsLearned (before after : InputSeen) (share : ShareSeen) (output : List ℕ) : Type 0 where
  pub bytes : List ℕ
  pub read : Consumes before.left after.left bytes
  pub end : IsAtEnd after.left
  pub faultless : after.faults ≡ before.faults
  pub rows : List CodeRow
  pub reply : IsReply rows bytes
  pub unopened : share ≡ no_share
  pub written : output ≡ code_lines rows

abbrev pub table_text : CodeError → List ℕ
table_text table.NotReply = codes "codes: not a reply"
table_text (table.Entry index) = codes "codes: entry " ++ decimal index
table_text (table.Repeated index) = codes "codes: repeated " ++ decimal index
table_text table.Memory = codes "memory"

abbrev pub learn_line : LearnFault → List ℕ
learn_line (Broken error) = tags_text error ++ 10 ∷ []
learn_line (Table error) = table_text error ++ 10 ∷ []

abbrev pub learn_status : LearnFault → ℕ
learn_status own = 3

abbrev pub learn_cause : LearnFault → Cause
learn_cause (Broken error) = OfInput (error ≢ stream.Memory) (HasNoReply error)
learn_cause (Table error) = OfInput (error ≢ table.Memory) (IsReplyRefused error)

abbrev pub learn_meaning : Meaning
learn_meaning = record {
  fault = LearnFault;
  line = learn_line;
  status = learn_status;
  cause = learn_cause;
  reads_on = IsReplySoFar;
  gives = λ input. (rows : List CodeRow) × IsReply rows input;
  is_done = λ before after share output. IsLearned before.input after.input share output;
  is_begun = λ before after share output. IsLearned before.input after.input share output;
  is_front = writes_nothing_before;
  leaves = leaves_no_share;
  may_want = may_read;
  always = says_no_more;
}

-- reading stops so; an allocation may fail at any time
abbrev pub StopsReading : InputSeen → InputSeen → Fault LearnFault → Type 0
StopsReading before after stop = StopsBy learn_cause IsReplySoFar (Unit {0}) before after stop

-- the errors for refusals of the tag and of its table
abbrev pub broken_fault : StreamError → Fault LearnFault
broken_fault (stream.TooLarge at) = fault.Own (Broken (stream.TooLarge at))
broken_fault (stream.TooDeep at) = fault.Own (Broken (stream.TooDeep at))
broken_fault (stream.Overrun at code) = fault.Own (Broken (stream.Overrun at code))
broken_fault (stream.ShortHead at) = fault.Own (Broken (stream.ShortHead at))
broken_fault (stream.Truncated at) = fault.Own (Broken (stream.Truncated at))
broken_fault stream.Memory = fault.Memory

abbrev pub table_fault : CodeError → Fault LearnFault
table_fault table.NotReply = fault.Own (Table table.NotReply)
table_fault (table.Entry index) = fault.Own (Table (table.Entry index))
table_fault (table.Repeated index) = fault.Own (Table (table.Repeated index))
table_fault table.Memory = fault.Memory
