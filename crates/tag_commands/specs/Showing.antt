-- What was shown of the bytes that a shower was given.
use Rattle.std.specs.Prelude.{◌≡◌, ◌≢◌, ◌++◌, [], ℕ, List, length, take, fold, None}
use Rattle.code_table.specs.Standard.{standard_rows}
use Rattle.dmap_show.specs.Events.{shown_events}
use Rattle.dmap_show.specs.Readable.{AreBytes}
use Rattle.dmap_stream.specs.Walk.{broken}
use Rattle.dmap_stream.specs.Reader.{Reader, ready, HasRead}
use Rattle.dmap_stream.specs.declared.event.Event.{Event}
use Rattle.dmap_stream.specs.declared.refusal.StreamError.{StreamError}
use Rattle.dmap_stream.specs.declared.refusal.StreamError.TheVariants as stream
use Rattle.command_core.specs.declared.fault.Fault.{Fault}
use Rattle.command_core.specs.declared.fault.Fault.TheVariants.{Own, Read, Memory}
use Rattle.tag_commands.specs.declared.tags_fault.TagsFault.{TagsFault}
use Rattle.tag_commands.specs.declared.tags_fault.TagsFault.TheVariants.{Broken, TooLong}
use Rattle.tag_commands.specs.declared.show.Shower.{Shower}
use Rattle.tag_commands.specs.declared.show.Stop.{Stop}
use Rattle.tag_commands.specs.declared.show.Stop.TheVariants.{Input, Output}
use Rattle.tag_commands.specs.declared.tops.Tops.{Tops}
use Rattle.command_core.specs.Seen.{InputSeen, OutputSeen, no_share}
use Rattle.tag_commands.specs.TopTags.{tags_limit, tag_limit, walk_of_tags, IsTooLong, StopsReading}
use Rattle.tag_commands.specs.Counting.{after_event, no_tops}
use Rattle.tag_commands.specs.Show.{shown_text, BeginsShown, IsShownCut, IsShownBefore}
use Rattle.command_core.specs.Endings.{IsWritten, IsCut}

-- the reader was fed these bytes, and the lines of all events that it returned are those written and those not yet written
pub record HasShown (fed written : List ℕ) (reader : Reader) (tops : Tops) (lines : List ℕ) : Type 0 where
  pub handed : List Event
  pub read : HasRead fed handed reader
  pub rows : reader.rows ≡ standard_rows
  pub limit : reader.limit ≡ tag_limit
  pub counted : tops ≡ fold after_event no_tops handed
  pub shown : written ++ lines ≡ shown_events 0 handed

-- the shower's reader was fed these bytes, and the lines of all events that it returned are those written and its own
abbrev pub HasShownEvents : (fed written : List ℕ) → Shower → Type 0
HasShownEvents fed written shower = HasShown fed written shower.counter.reader shower.counter.tops shower.lines.items

-- .. and no event is left in it
pub record IsShowing (fed written : List ℕ) (shower : Shower) : Type 0 where
  pub shown : HasShownEvents fed written shower
  pub going : shower.counter.reader.error ≡ None
  pub quiet : ready shower.counter.reader ≡ []
  pub bytes : shower.counter.bytes ≡ length fed
  pub small : AreBytes fed

-- the lines of the first events of all bytes that begin with these
abbrev pub ShowsSome : (bytes lines : List ℕ) → Type 0
ShowsSome bytes lines = (rest : List ℕ) → (count : ℕ) × (lines ≡ shown_events 0 (take count (walk_of_tags (bytes ++ rest)).events))

-- the error of all bytes that begin with these, and the lines of all events before it
abbrev pub ShowsBroken : (bytes lines : List ℕ) → StreamError → Type 0
ShowsBroken bytes lines error = (rest : List ℕ) → ((walk_of_tags (bytes ++ rest)).ending ≡ broken error) × (lines ≡ shown_events 0 (walk_of_tags (bytes ++ rest)).events)

-- the lines when a reader refused
pub record IsLast (bytes lines : List ℕ) (error : StreamError) : Type 0 where
  pub some : ShowsSome bytes lines
  pub all : error ≢ stream.Memory → ShowsBroken bytes lines error

-- the error of these bytes, whatever follows them, and the lines before it
abbrev pub StopsShowing : (bytes lines : List ℕ) → Fault TagsFault → Type 0
StopsShowing bytes lines (Own (Broken error)) =
    (error ≢ stream.Memory)
    × ((rest : List ℕ) → ((walk_of_tags (take tags_limit (bytes ++ rest))).ending ≡ broken error) × (lines ≡ shown_text (bytes ++ rest)))
StopsShowing bytes lines (Own TooLong) = IsTooLong bytes × (lines ≡ shown_text bytes)
StopsShowing bytes lines Read = ⊥
StopsShowing bytes lines Memory = BeginsShown bytes lines

-- a step that writes more stopped with these lines in all
abbrev pub StepStops : (bytes lines more : List ℕ) → OutputSeen → OutputSeen → Stop → Type 0
StepStops bytes lines more before after (Input fault) = StopsShowing bytes lines fault × IsWritten before after more
StepStops bytes lines more before after Output = BeginsShown bytes lines × IsCut before after more

-- showing stopped: by an error, with the lines before it written, or within lines that the output did not take
abbrev pub ShowStops : InputSeen → InputSeen → OutputSeen → OutputSeen → Stop → Type 0
ShowStops input_before input_after output_before output_after (Input fault) =
    StopsReading input_before input_after fault
    × ((lines : List ℕ) × IsShownBefore input_before input_after fault lines × IsWritten output_before output_after lines)
ShowStops input_before input_after output_before output_after Output =
    (lines : List ℕ) × IsShownCut input_before input_after no_share lines × IsCut output_before output_after lines
