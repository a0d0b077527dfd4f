-- The command `show`: the lines of the tags that the input's bytes are, written as the bytes come.
use Rattle.std.specs.Prelude.{◌≡◌, ◌≤◌, ◌⊎◌, ◌++◌, [], ℕ, List, length, take, IfSome}
use Rattle.std.specs.Io.KnownBytes.{Appends, Consumes}
use Rattle.dmap_tags.specs.Tree.{trees_of}
use Rattle.dmap_stream.specs.declared.event.Event.{Event}
use Rattle.dmap_show.specs.Events.{shown_events}
use Rattle.dmap_show.specs.Shown.{shown_tags}
use Rattle.command_core.specs.declared.fault.Fault.{Fault}
use Rattle.command_core.specs.declared.fault.Fault.TheVariants.{Own, Read, Memory}
use Rattle.command_core.specs.Seen.{InputSeen, OutputSeen, ShareSeen, no_share}
use Rattle.command_core.specs.Causes.{HasReadOn, piece_limit}
use Rattle.command_core.specs.Meanings.{Meaning}
use Rattle.tag_commands.specs.declared.tags_fault.TagsFault.{TagsFault}
use Rattle.tag_commands.specs.TopTags.{tags_limit, walk_of_tags, HasReadTags, IsSoundSoFar}
use Rattle.tag_commands.specs.Check.{check_meaning}

-- the events in the bytes up to the limit
abbrev pub read_events : List ℕ → List Event
read_events bytes = (walk_of_tags (take tags_limit bytes)).events

-- the lines of all of them
abbrev pub shown_text : List ℕ → List ℕ
shown_text bytes = shown_events 0 (read_events bytes)

-- the lines of the first events
abbrev pub BeginsShown : (bytes lines : List ℕ) → Type 0
BeginsShown bytes lines = (count : ℕ) × (lines ≡ shown_events 0 (take count (read_events bytes)))

-- the input was read to its end, without an error, and is tags, and the output is their lines
pub record IsShownWhole (before after : InputSeen) (share : ShareSeen) (output : List ℕ) : Type 0 where
  pub input : HasReadTags before after
  pub unopened : share ≡ no_share
  pub written : output ≡ shown_tags 0 (trees_of input.tags)

-- the lines of the first events of bytes that were read
pub record IsShownFront (before after : InputSeen) (lines : List ℕ) : Type 0 where
  pub bytes : List ℕ
  pub read : Consumes before.left after.left bytes
  pub shown : BeginsShown bytes lines

-- if the output fails within those lines, no more was read than there was cause to, and no read failed
pub record IsShownCut (before after : InputSeen) (share : ShareSeen) (lines : List ℕ) : Type 0 where
  pub shown : IsShownFront before after lines
  pub read_on : HasReadOn IsSoundSoFar before after
  pub faultless : after.faults ≡ before.faults
  pub unopened : share ≡ no_share

-- all events before an error are shown: of the input up to its first malformed tag or the limit, or of what was read
-- when a read failed. After an allocation failure they may be fewer
abbrev pub ShowsAll : Fault TagsFault → InputSeen → InputSeen → List ℕ → Type 0
ShowsAll (Own own) before after lines = IfSome before.left (λ input. lines ≡ shown_text input)
ShowsAll Read before after lines = (bytes : List ℕ) × Consumes before.left after.left bytes × (lines ≡ shown_text bytes)
ShowsAll Memory before after lines = Unit {0}

-- the output before the line of an error
pub record IsShownBefore (before after : InputSeen) (fault : Fault TagsFault) (lines : List ℕ) : Type 0 where
  pub some : IsShownFront before after lines
  pub all : ShowsAll fault before after lines

-- Reading and writing keep step: the output took all lines of what was read, but perhaps those of a last part, no longer
-- than one read brings; and if there is such a part, no read failed.
pub record IsInStep (before after : InputSeen) (output_before output_after : OutputSeen) : Type 0 where
  pub front : List ℕ
  pub last : List ℕ
  pub read : Consumes before.left after.left (front ++ last)
  pub short : length last ≤ piece_limit
  pub more : List ℕ
  pub taken : Appends output_before.taken output_after.taken (shown_text front ++ more)
  pub steady : (last ≡ []) ⊎ (after.faults ≡ before.faults)

-- its errors and statuses are those of `check`; reading and writing keep step in every run
abbrev pub show_meaning : Meaning
show_meaning = record check_meaning {
  is_done = λ before after share output. IsShownWhole before.input after.input share output;
  is_begun = λ before after share output. IsShownCut before.input after.input share output;
  is_front = λ before after fault front. IsShownBefore before.input after.input fault front;
  always = λ told outcome. IsInStep told.before.input told.after.input told.output_before told.output_after;
}
