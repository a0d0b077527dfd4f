-- What a counter of tags has counted of the bytes that it was given.
use Rattle.std.specs.Prelude.{◌≡◌, ◌≢◌, ◌+◌, ◌-◌, ◌==◌, ◌++◌, [], ℕ, List, length, take, fold, None, Result, Ok, Err, if◌then◌else◌}
use Rattle.code_table.specs.Standard.{standard_rows}
use Rattle.dmap_show.specs.Readable.{AreBytes}
use Rattle.dmap_stream.specs.Walk.{between, inside, broken}
use Rattle.dmap_stream.specs.Reader.{Reader, ready, HasRead}
use Rattle.dmap_stream.specs.declared.event.Event.{Event}
use Rattle.dmap_stream.specs.declared.event.Event.TheVariants.{Open, Leaf, Close}
use Rattle.dmap_stream.specs.declared.refusal.StreamError.{StreamError}
use Rattle.dmap_stream.specs.declared.refusal.StreamError.TheVariants as stream
use Rattle.tag_commands.specs.declared.counting.Counter.{Counter}
use Rattle.command_core.specs.declared.fault.Fault.{Fault}
use Rattle.command_core.specs.declared.fault.Fault.TheVariants.{Own, Read, Memory}
use Rattle.tag_commands.specs.declared.tags_fault.TagsFault.{TagsFault}
use Rattle.tag_commands.specs.declared.tags_fault.TagsFault.TheVariants.{Broken, TooLong}
use Rattle.tag_commands.specs.declared.tops.Tops.{Tops}
use Rattle.tag_commands.specs.TopTags.{tags_limit, tag_limit, walk_of_tags, IsTooLong}

-- no list is open, and no top tag has ended
abbrev pub no_tops : Tops
no_tops = record { depth = 0; ended = 0 }

-- a tag ends inside `depth` open lists
abbrev pub with_tag : ℕ → ℕ → Tops
with_tag depth ended = record { depth = depth; ended = if depth == 0 then ended + 1 else ended }

abbrev pub after_event : Tops → Event → Tops
after_event tops (Open code len at) = record { depth = tops.depth + 1; ended = tops.ended }
after_event tops (Leaf code value at) = with_tag tops.depth tops.ended
after_event tops (Close code at) = with_tag (tops.depth - 1) tops.ended

-- how many top tags have ended with these events
abbrev pub top_tags : List Event → ℕ
top_tags events = (fold after_event no_tops events).ended

-- the reader was fed these bytes, and all events that it returned are counted
pub record HasCounted (fed : List ℕ) (reader : Reader) (tops : Tops) : Type 0 where
  pub handed : List Event
  pub read : HasRead fed handed reader
  pub going : reader.error ≡ None
  pub rows : reader.rows ≡ standard_rows
  pub limit : reader.limit ≡ tag_limit
  pub counted : tops ≡ fold after_event no_tops handed

-- the counter's reader was fed these bytes, and the counter has counted all events that it returned
abbrev pub HasCountedEvents : List ℕ → Counter → Type 0
HasCountedEvents fed counter = HasCounted fed counter.reader counter.tops

-- .. and no event is left in it
pub record IsCounted (fed : List ℕ) (counter : Counter) : Type 0 where
  pub counted : HasCountedEvents fed counter
  pub quiet : ready counter.reader ≡ []
  pub bytes : counter.bytes ≡ length fed
  pub small : AreBytes fed

-- the error is that of all bytes that begin with these
abbrev pub IsShown : List ℕ → StreamError → Type 0
IsShown bytes error = (error ≢ stream.Memory) → (rest : List ℕ) → (walk_of_tags (bytes ++ rest)).ending ≡ broken error

-- the error of these bytes, whatever follows them
abbrev pub StopsAt : List ℕ → Fault TagsFault → Type 0
StopsAt bytes (Own (Broken error)) = (error ≢ stream.Memory) × ((rest : List ℕ) → (walk_of_tags (take tags_limit (bytes ++ rest))).ending ≡ broken error)
StopsAt bytes (Own TooLong) = IsTooLong bytes
StopsAt bytes Read = ⊥
StopsAt bytes Memory = Unit {0}

-- the bytes end between two top tags, which are counted, or inside one
abbrev pub EndsCounted : List ℕ → Result ℕ StreamError → Type 0
EndsCounted bytes (Ok tags) = ((walk_of_tags bytes).ending ≡ between) × (tags ≡ top_tags (walk_of_tags bytes).events)
EndsCounted bytes (Err error) = ((walk_of_tags bytes).ending ≡ inside) × (error ≡ stream.Truncated (length bytes))
