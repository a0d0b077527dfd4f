-- Bytes that are read as tags of the standard table, one after another, as `check` and `show` read them: the first
-- error in them, with its line, its status and its cause.
use Rattle.std.specs.Prelude.{◌≡◌, ◌≢◌, ◌<◌, ◌≤◌, ◌⊎◌, ◌++◌, ◌∷◌, [], ℕ, List, length, take, codes, decimal}
use Rattle.std.specs.Io.KnownBytes.{Consumes, IsAtEnd}
use Rattle.dmap_tags.specs.Spelling.{spellings}
use Rattle.dmap_tags.specs.Tree.{Tree, trees_of}
use Rattle.code_table.specs.Standard.{standard_rows}
use Rattle.dmap_stream.specs.Walk.{Walk, inside, broken, walk_of}
use Rattle.dmap_stream.specs.WholeTag.{AreAccepted}
use Rattle.dmap_stream.specs.declared.refusal.StreamError.{StreamError}
use Rattle.dmap_stream.specs.declared.refusal.StreamError.TheVariants.{TooLarge, TooDeep, Overrun, ShortHead, Truncated, Memory}
use Rattle.command_core.specs.declared.fault.Fault.{Fault}
use Rattle.command_core.specs.declared.fault.Fault.TheVariants as fault
use Rattle.command_core.specs.Seen.{InputSeen}
use Rattle.command_core.specs.Causes.{Cause, OfInput, StopsBy}
use Rattle.tag_commands.specs.declared.tags_fault.TagsFault.{TagsFault}
use Rattle.tag_commands.specs.declared.tags_fault.TagsFault.TheVariants.{Broken, TooLong}

-- the limit of the input: 4 GiB
abbrev pub tags_limit : ℕ
tags_limit = 4294967296

-- the greatest payload of a top tag: 1 GiB
abbrev pub tag_limit : ℕ
tag_limit = 1073741824

-- what bytes say as tags of the standard table
abbrev pub walk_of_tags : List ℕ → Walk
walk_of_tags bytes = walk_of standard_rows tag_limit bytes

-- the bytes are these tags, each within the limit of a top tag
pub record AreTopTags (tags : List Tree) (bytes : List ℕ) : Type 0 where
  pub spelled : bytes ≡ spellings (trees_of tags)
  pub accepted : AreAccepted standard_rows tag_limit tags

-- the bytes are tags, within the limit of the input
abbrev pub IsSound : List ℕ → Type 0
IsSound bytes = (length bytes ≤ tags_limit) × ((tags : List Tree) × AreTopTags tags bytes)

-- the input was read to its end, without an error, and is tags, within its limit
pub record HasReadTags (before after : InputSeen) : Type 0 where
  pub bytes : List ℕ
  pub read : Consumes before.left after.left bytes
  pub end : IsAtEnd after.left
  pub faultless : after.faults ≡ before.faults
  pub within : length bytes ≤ tags_limit
  pub tags : List Tree
  pub sound : AreTopTags tags bytes

-- no tag in the bytes is malformed
abbrev pub HasNoFault : List ℕ → Type 0
HasNoFault bytes = (error : StreamError) → (walk_of_tags bytes).ending ≢ broken error

-- so far no tag is malformed, within the limit
pub record IsSoundSoFar (bytes : List ℕ) : Type 0 where
  pub within : length bytes ≤ tags_limit
  pub sound : HasNoFault bytes

-- the bytes end inside a top tag
pub record IsCutShort (error : StreamError) (input : List ℕ) : Type 0 where
  pub within : length input ≤ tags_limit
  pub ending : (walk_of_tags input).ending ≡ inside
  pub told : error ≡ Truncated (length input)

-- the error of an input: that of the first malformed tag within the limit, or of its end
abbrev pub HasTagFault : StreamError → List ℕ → Type 0
HasTagFault error input = ((walk_of_tags (take tags_limit input)).ending ≡ broken error) ⊎ IsCutShort error input

-- the input is past the limit, and has no malformed tag within it
pub record IsTooLong (input : List ℕ) : Type 0 where
  pub long : tags_limit < length input
  pub sound : HasNoFault (take tags_limit input)

abbrev pub tags_text : StreamError → List ℕ
tags_text (TooLarge at) = codes "tags: too large at " ++ decimal at
tags_text (TooDeep at) = codes "tags: too deep at " ++ decimal at
tags_text (Overrun at code) = codes "tags: overrun at " ++ decimal at
tags_text (ShortHead at) = codes "tags: short head at " ++ decimal at
tags_text (Truncated at) = codes "tags: truncated at " ++ decimal at
tags_text Memory = codes "memory"

abbrev pub tags_line : TagsFault → List ℕ
tags_line (Broken error) = tags_text error ++ 10 ∷ []
tags_line TooLong = codes "limit: input" ++ 10 ∷ []

abbrev pub tags_status : TagsFault → ℕ
tags_status (Broken error) = 3
tags_status TooLong = 8

abbrev pub tags_cause : TagsFault → Cause
tags_cause (Broken error) = OfInput (error ≢ Memory) (HasTagFault error)
tags_cause TooLong = OfInput (Unit {0}) IsTooLong

-- reading stops so; an allocation may fail at any time
abbrev pub StopsReading : InputSeen → InputSeen → Fault TagsFault → Type 0
StopsReading before after stop = StopsBy tags_cause IsSoundSoFar (Unit {0}) before after stop

-- the error for a refusal of the reader
abbrev pub tags_fault : StreamError → Fault TagsFault
tags_fault (TooLarge at) = fault.Own (Broken (TooLarge at))
tags_fault (TooDeep at) = fault.Own (Broken (TooDeep at))
tags_fault (Overrun at code) = fault.Own (Broken (Overrun at code))
tags_fault (ShortHead at) = fault.Own (Broken (ShortHead at))
tags_fault (Truncated at) = fault.Own (Broken (Truncated at))
tags_fault Memory = fault.Memory
