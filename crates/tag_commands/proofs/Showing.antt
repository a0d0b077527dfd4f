-- What a shower has shown, before and after a call.
use Rattle.std.proofs.Common.{◌≡◌, ◌≢◌, ℕ, zero, suc, pred, ◌+◌, ◌-◌, ◌<◌, ◌≤◌, List, [], ◌∷◌, ◌++◌, length, take, fold, Option, Some, None, Result, Ok, Err, IfErr, refl, sym, ap, subst, ◌∙◌, arith, length-append, append_assoc}
use Rattle.std.specs.Io.KnownBytes.{Consumes, IsAtEnd}
use Rattle.std.proofs.KnownBytes.{Consumes-nil}
use Rattle.std.proofs.lemmas.List.{append-nil, take-append-le, take_at, take_all}
use Rattle.outside_net.specs.Counts.{Rose}
use Rattle.dmap_show.specs.Events.{shown_event, level_after, shown_events}
use Rattle.dmap_stream.specs.declared.event.Event.{Event}
use Rattle.dmap_stream.specs.declared.event.Event.TheVariants.{Open, Leaf, Close}
use Rattle.dmap_stream.specs.declared.refusal.StreamError.{StreamError}
use Rattle.dmap_stream.specs.declared.refusal.StreamError.TheVariants as stream
use Rattle.dmap_stream.specs.Walk.{broken, walk_of}
use Rattle.dmap_stream.specs.Reading.{resumed}
use Rattle.dmap_stream.specs.Reader.{Reader, ready, ReadAs, HasRead, TellsAs}
use Rattle.dmap_stream.proofs.Readings.{told}
use Rattle.tag_commands.specs.TopTags.{tags_limit}
use Rattle.tag_commands.specs.declared.counting.Counter.{Counter}
use Rattle.command_core.specs.declared.fault.Fault.{Fault}
use Rattle.command_core.specs.declared.fault.Fault.TheVariants.{Own, Read, Memory}
use Rattle.tag_commands.specs.declared.tags_fault.TagsFault.{TagsFault}
use Rattle.tag_commands.specs.declared.tags_fault.TagsFault.TheVariants.{Broken, TooLong}
use Rattle.tag_commands.specs.declared.tops.Tops.{Tops}
use Rattle.tag_commands.specs.declared.show.Shower.{Shower}
use Rattle.tag_commands.specs.declared.show.Stop.{Stop}
use Rattle.tag_commands.specs.declared.show.Stop.TheVariants.{Input, Output}
use Rattle.command_core.specs.Seen.{InputSeen, OutputSeen, no_share}
use Rattle.command_core.specs.Causes.{piece_limit, HasReadOn}
use Rattle.command_core.proofs.Appending.{written_more, cut_more}
use Rattle.command_core.proofs.Reading.{of_input, of_front}
use Rattle.tag_commands.specs.TopTags.{walk_of_tags, IsSoundSoFar, StopsReading, tags_fault}
use Rattle.tag_commands.specs.Show.{read_events, shown_text, BeginsShown, IsShownWhole, ShowsAll, IsShownBefore}
use Rattle.tag_commands.specs.Counting.{after_event, no_tops, HasCounted, IsCounted, StopsAt, EndsCounted}
use Rattle.command_core.specs.Endings.{IsWritten}
use Rattle.tag_commands.specs.Showing.{HasShown, IsShowing, ShowsSome, ShowsBroken, IsLast, StopsShowing, StepStops, ShowStops}
use Rattle.tag_commands.proofs.FewEvents.{total, few_handed, few_counted}
use Rattle.tag_commands.proofs.Counted.{walked_by, within_limit, on_piece, stopped_cause, failed_cause, cut_cause, too_long}
use Rattle.tag_commands.proofs.Tagged.{some_tags, tags_shown}

pred_is : (n : ℕ) → pred n ≡ n - 1
pred_is zero = refl
pred_is (suc n) = omega arith

-- the level after an event is the number of open lists
level_is : (tops : Tops) (e : Event) → level_after tops.depth e ≡ (after_event tops e).depth
level_is tops (Open c len at) = omega arith
level_is tops (Leaf c value at) = refl
level_is tops (Close c at) = pred_is tops.depth

-- one event more, at the level of the open lists
pub shown_more : (es : List Event) (tops : Tops) (e : Event)
    → shown_events tops.depth (es ++ e ∷ []) ≡ shown_events tops.depth es ++ shown_event (fold after_event tops es).depth e
shown_more [] tops e = append-nil (shown_event tops.depth e)
shown_more (f ∷ es) tops e =
    ap (λ l. shown_event tops.depth f ++ l)
    (ap (λ n. shown_events n (es ++ e ∷ [])) (level_is tops f) ∙ shown_more es (after_event tops f) e
    ∙ ap (λ n. shown_events n es ++ shown_event (fold after_event (after_event tops f) es).depth e) (sym (level_is tops f)))
    ∙ sym (append_assoc (shown_event tops.depth f) (shown_events (level_after tops.depth f) es) (shown_event (fold after_event (after_event tops f) es).depth e))

-- one event more is returned, and its lines are made
pub shown_next : (fed written lines lines_new : List ℕ) (old new : Reader) (tops tops_new : Tops) (event : Event) → HasShown fed written old tops lines
    → (new.rows ≡ old.rows) × (new.limit ≡ old.limit)
    → ((bytes : List ℕ) (handed : List Event) → HasRead bytes handed old → HasRead bytes (handed ++ event ∷ []) new)
    → lines_new ≡ lines ++ shown_event tops.depth event → tops_new ≡ after_event tops event → HasShown fed written new tops_new lines_new
shown_next fed written lines lines_new old new tops tops_new event h same read made is = record {
  handed = h.handed ++ event ∷ [];
  read = read fed h.handed h.read;
  rows = same.0 ∙ h.rows;
  limit = same.1 ∙ h.limit;
  counted = is ∙ ap (λ t. after_event t event) h.counted ∙ sym (counted_more_of h.handed no_tops event);
  shown =
      ap (λ l. written ++ l) made ∙ sym (append_assoc written lines (shown_event tops.depth event)) ∙ ap (λ l. l ++ shown_event tops.depth event) h.shown
      ∙ ap (λ (t : Tops). shown_events 0 h.handed ++ shown_event t.depth event) h.counted ∙ sym (shown_more h.handed no_tops event);
}
  where
    counted_more_of : (events : List Event) (tops : Tops) (e : Event) → fold after_event tops (events ++ e ∷ []) ≡ after_event (fold after_event tops events) e
    counted_more_of [] tops e = refl
    counted_more_of (f ∷ es) tops e = counted_more_of es (after_event tops f) e

-- an event that is returned is one of few, so that the counts are small
pub few_shown : (fed written lines : List ℕ) (old new : Reader) (tops : Tops) (event : Event) → HasShown fed written old tops lines
    → ((bytes : List ℕ) (handed : List Event) → HasRead bytes handed old → HasRead bytes (handed ++ event ∷ []) new)
    → length fed ≤ tags_limit → tops.depth + tops.ended < 4294967296
few_shown fed written lines old new tops event h read few =
    omega (arith, few, few_handed fed (h.handed ++ event ∷ []) new (read fed h.handed h.read), length-append h.handed (event ∷ []), few_counted h.handed no_tops, ap total h.counted)

-- more bytes are fed, and no event is returned
pub shown_fed : (fed more bytes written lines : List ℕ) (old new : Reader) (tops : Tops) → HasShown fed written old tops lines
    → (new.rows ≡ old.rows) × (new.limit ≡ old.limit)
    → ((bytes : List ℕ) (handed : List Event) → HasRead bytes handed old → HasRead (bytes ++ more) handed new)
    → fed ++ more ≡ bytes → HasShown bytes written new tops lines
shown_fed fed more bytes written lines old new tops h same read is = record {
  handed = h.handed;
  read = subst (λ l. HasRead l h.handed new) is (read fed h.handed h.read);
  rows = same.0 ∙ h.rows;
  limit = same.1 ∙ h.limit;
  counted = h.counted;
  shown = h.shown;
}

-- what is shown is counted
pub counted_of : (fed written lines : List ℕ) (r : Reader) (tops : Tops) → HasShown fed written r tops lines → r.error ≡ None → HasCounted fed r tops
counted_of fed written lines r tops h going = record {
  handed = h.handed;
  read = h.read;
  going = going;
  rows = h.rows;
  limit = h.limit;
  counted = h.counted;
}

pub is_counted : (fed written : List ℕ) (shower : Shower) → IsShowing fed written shower → IsCounted fed shower.counter
is_counted fed written shower h = record {
  counted = counted_of fed written shower.lines.items shower.counter.reader shower.counter.tops h.shown h.going;
  quiet = h.quiet;
  bytes = h.bytes;
  small = h.small;
}

begun_as : (fed : List ℕ) (handed : List Event) (r : Reader) (error : Option StreamError) → ReadAs fed handed r error
    → (rest : List ℕ) → (later : List Event) × ((walk_of r.rows r.limit (fed ++ rest)).events ≡ (handed ++ ready r) ++ later)
begun_as fed handed r None h rest = ((resumed r.rows r.limit r.position rest).events, ap (λ w. w.events) (h.2 rest))
begun_as fed handed r (Some e) h rest = ((h.0 rest).0.events, ap (λ w. w.events) (h.0 rest).1)

-- whatever follows, these are the lines of its first events
pub shows_some : (fed written lines : List ℕ) (r : Reader) (tops : Tops) → HasShown fed written r tops lines → ShowsSome fed (written ++ lines)
shows_some fed written lines r tops h rest =
    let later = begun_as fed h.handed r r.error h.read rest in
    let events : (walk_of_tags (fed ++ rest)).events ≡ h.handed ++ (ready r ++ later.0) =
    ap (λ w. w.events) (sym (walked_by (fed ++ rest) r h.rows h.limit)) ∙ later.1 ∙ append_assoc h.handed (ready r) later.0 in
    (length h.handed, h.shown ∙ ap (shown_events 0) (sym (ap (take (length h.handed)) events ∙ take_at h.handed (ready r ++ later.0) (length h.handed) refl)))

all_events : (handed : List Event) (r : Reader) → ready r ≡ [] → handed ++ ready r ≡ handed
all_events handed r quiet = ap (λ es. handed ++ es) quiet ∙ append-nil handed

-- after a refusal no event is left
pub shows_broken : (bytes written lines : List ℕ) (r : Reader) (tops : Tops) (e : StreamError) → HasShown bytes written r tops lines → ready r ≡ []
    → r.error ≡ Some e → e ≢ stream.Memory → ShowsBroken bytes (written ++ lines) e
shows_broken bytes written lines r tops e h quiet stopped known rest =
    let walk = sym (walked_by (bytes ++ rest) r h.rows h.limit) ∙ (subst (ReadAs bytes h.handed r) stopped h.read).1 known rest in
    let events : (walk_of_tags (bytes ++ rest)).events ≡ h.handed = ap (λ w. w.events) walk ∙ append-nil (h.handed ++ ready r) ∙ all_events h.handed r quiet in
    (ap (λ w. w.ending) walk, h.shown ∙ ap (shown_events 0) (sym events))

-- if all bytes were taken, the lines are those of all events
pub shows_whole : (fed written lines : List ℕ) (r : Reader) (tops : Tops) → HasShown fed written r tops lines → r.error ≡ None → ready r ≡ []
    → written ++ lines ≡ shown_events 0 (walk_of_tags fed).events
shows_whole fed written lines r tops h going quiet =
    let walk : TellsAs fed h.handed r None = subst (TellsAs fed h.handed r) going (told fed h.handed r h.read) in
    let events : (walk_of_tags fed).events ≡ h.handed =
    ap (λ w. w.events) (sym (walked_by fed r h.rows h.limit)) ∙ ap (λ w. w.events) walk ∙ all_events h.handed r quiet in
    h.shown ∙ ap (shown_events 0) (sym events)

-- bytes within the limit are read whole
pub within_whole : (bytes : List ℕ) → length bytes ≤ tags_limit → shown_text bytes ≡ shown_events 0 (walk_of_tags bytes).events
within_whole bytes within = ap (λ l. shown_events 0 (walk_of_tags l).events) (take_all tags_limit bytes within)

pub showing_text : (fed written : List ℕ) (shower : Shower) → IsShowing fed written shower → length fed ≤ tags_limit → written ++ shower.lines.items ≡ shown_text fed
showing_text fed written shower h within =
    shows_whole fed written shower.lines.items shower.counter.reader shower.counter.tops h.shown h.going h.quiet ∙ sym (within_whole fed within)

begins_all : (bytes lines : List ℕ) → lines ≡ shown_text bytes → BeginsShown bytes lines
begins_all bytes lines is =
    (length (read_events bytes), is ∙ ap (shown_events 0) (sym (take_all (length (read_events bytes)) (read_events bytes) (omega arith))))

pub begins_showing : (fed written : List ℕ) (shower : Shower) → IsShowing fed written shower → length fed ≤ tags_limit → BeginsShown fed (written ++ shower.lines.items)
begins_showing fed written shower h within = begins_all fed (written ++ shower.lines.items) (showing_text fed written shower h within)

stops_as : (bytes lines : List ℕ) (e : StreamError)
    → (e ≢ stream.Memory → (rest : List ℕ) → ((walk_of_tags (take tags_limit (bytes ++ rest))).ending ≡ broken e) × (lines ≡ shown_text (bytes ++ rest)))
    → BeginsShown bytes lines → StopsShowing bytes lines (tags_fault e)
stops_as bytes lines (stream.TooLarge at) all some = ((λ is. absurd (cc)), all (λ is. absurd (cc)))
stops_as bytes lines (stream.TooDeep at) all some = ((λ is. absurd (cc)), all (λ is. absurd (cc)))
stops_as bytes lines (stream.Overrun at code) all some = ((λ is. absurd (cc)), all (λ is. absurd (cc)))
stops_as bytes lines (stream.ShortHead at) all some = ((λ is. absurd (cc)), all (λ is. absurd (cc)))
stops_as bytes lines (stream.Truncated at) all some = ((λ is. absurd (cc)), all (λ is. absurd (cc)))
stops_as bytes lines stream.Memory all some = some

-- a refusal of the bytes up to the limit, or of some of them
pub stops_showing : (fed front piece more lines : List ℕ) (e : StreamError) → length (fed ++ front) ≤ tags_limit → IsLast (fed ++ front) lines e
    → piece ≡ front ++ more → StopsShowing (fed ++ piece) lines (tags_fault e)
stops_showing fed front piece more lines e within last split =
    let same : fed ++ piece ≡ (fed ++ front) ++ more = ap (λ l. fed ++ l) split ∙ sym (append_assoc fed front more) in
    let some = last.some (take (tags_limit - length (fed ++ front)) more) in
    let cut : (fed ++ front) ++ take (tags_limit - length (fed ++ front)) more ≡ take tags_limit (fed ++ piece) =
    sym (ap (take tags_limit) same ∙ within_limit (fed ++ front) more within) in
    stops_as (fed ++ piece) lines e (λ known rest.
    let behind = take (tags_limit - length (fed ++ front)) (more ++ rest) in
    let all = last.all known behind in
    let whole : take tags_limit ((fed ++ piece) ++ rest) ≡ (fed ++ front) ++ behind =
    ap (λ l. take tags_limit (l ++ rest)) same ∙ ap (take tags_limit) (append_assoc (fed ++ front) more rest) ∙ within_limit (fed ++ front) (more ++ rest) within in
    (ap (λ l. (walk_of_tags l).ending) whole ∙ all.0, all.1 ∙ ap (λ l. shown_events 0 (walk_of_tags l).events) (sym whole)))
    (some.0, some.1 ∙ ap (λ l. shown_events 0 (take some.0 (walk_of_tags l).events)) cut)

-- more bytes than are read
pub stops_long : (fed front behind piece written : List ℕ) (shower : Shower) → length (fed ++ front) ≡ tags_limit → 0 < length behind → piece ≡ front ++ behind
    → IsShowing (fed ++ front) written shower → StopsShowing (fed ++ piece) (written ++ shower.lines.items) (Own TooLong)
stops_long fed front behind piece written shower full more split h =
    let same : fed ++ piece ≡ (fed ++ front) ++ behind = ap (λ l. fed ++ l) split ∙ sym (append_assoc fed front behind) in
    let cut : take tags_limit (fed ++ piece) ≡ fed ++ front = ap (take tags_limit) same ∙ take_at (fed ++ front) behind tags_limit full in (
      too_long fed front behind piece shower.counter.reader shower.counter.tops full more split (is_counted (fed ++ front) written shower h).counted,
      shows_whole (fed ++ front) written shower.lines.items shower.counter.reader shower.counter.tops h.shown h.going h.quiet
          ∙ ap (λ l. shown_events 0 (walk_of_tags l).events) (sym cut),
    )

-- what is shown when showing stops
pub begins_stopped : (bytes lines : List ℕ) (fault : Fault TagsFault) → StopsShowing bytes lines fault → BeginsShown bytes lines
begins_stopped bytes lines (Own (Broken error)) stop = begins_all bytes lines ((stop.1 []).1 ∙ ap shown_text (append-nil bytes))
begins_stopped bytes lines (Own TooLong) stop = begins_all bytes lines stop.1
begins_stopped bytes lines Read stop = absurd stop
begins_stopped bytes lines Memory stop = stop

stops_at : (bytes lines : List ℕ) (fault : Fault TagsFault) → StopsShowing bytes lines fault → StopsAt bytes fault
stops_at bytes lines (Own (Broken error)) stop = (stop.0, λ rest. (stop.1 rest).0)
stops_at bytes lines (Own TooLong) stop = stop.0
stops_at bytes lines Read stop = stop
stops_at bytes lines Memory stop = tt

-- bytes past the limit are not shown, whatever follows them
long_text : (bytes lines rest : List ℕ) → StopsShowing bytes lines (Own TooLong) → lines ≡ shown_text (bytes ++ rest)
long_text bytes lines rest stop =
    stop.1 ∙ ap (λ l. shown_events 0 (walk_of_tags l).events) (sym (take-append-le tags_limit bytes rest (let more = stop.0.long in omega arith)))

shows_all : (before after : InputSeen) (bytes lines : List ℕ) (fault : Fault TagsFault) → Consumes before.left after.left bytes → StopsShowing bytes lines fault
    → ShowsAll fault before after lines
shows_all before after bytes lines (Own (Broken error)) read stop =
    of_front (λ input. lines ≡ shown_text input) before.left after.left bytes read (λ rest. (stop.1 rest).1)
shows_all before after bytes lines (Own TooLong) read stop =
    of_front (λ input. lines ≡ shown_text input) before.left after.left bytes read (λ rest. long_text bytes lines rest stop)
shows_all before after bytes lines Read read stop = absurd stop
shows_all before after bytes lines Memory read stop = tt

-- the cause of an error, and the lines before it
pub show_cause : (before after : InputSeen) (bytes lines : List ℕ) (fault : Fault TagsFault) → Consumes before.left after.left bytes → after.faults ≡ before.faults
    → HasReadOn IsSoundSoFar before after → StopsShowing bytes lines fault → StopsReading before after fault × IsShownBefore before after fault lines
show_cause before after bytes lines fault read faultless on stop = (
  stopped_cause before after bytes fault read faultless on (stops_at bytes lines fault stop),
  record {
    some = record { bytes = bytes; read = read; shown = begins_stopped bytes lines fault stop };
    all = shows_all before after bytes lines fault read stop;
  },
)

none_handed : (es : List Event) → length es ≡ 0 → es ≡ []
none_handed [] h = refl
none_handed (e ∷ es) h = absurd (cc)

-- before the first byte
pub showing_first : (shower : Shower) → IsCounted [] shower.counter → shower.lines.items ≡ [] → IsShowing [] [] shower
showing_first shower h empty =
    let few = few_handed [] h.counted.handed shower.counter.reader h.counted.read in
    let none : length h.counted.handed ≡ 0 = omega (arith, few) in
    record {
      shown = record {
        handed = h.counted.handed;
        read = h.counted.read;
        rows = h.counted.rows;
        limit = h.counted.limit;
        counted = h.counted.counted;
        shown = empty ∙ sym (ap (shown_events 0) (none_handed h.counted.handed none));
      };
      going = h.counted.going;
      quiet = h.quiet;
      bytes = h.bytes;
      small = h.small;
    }

-- lines that wait were written
pub cleared : (fed written : List ℕ) (old new : Shower) → IsShowing fed written old → new.counter ≡ old.counter → new.lines.items ≡ []
    → IsShowing fed (written ++ old.lines.items) new
cleared fed written old new h same empty = record {
  shown = subst (λ (k : Counter). HasShown fed (written ++ old.lines.items) k.reader k.tops new.lines.items) (sym same) (record {
    handed = h.shown.handed;
    read = h.shown.read;
    rows = h.shown.rows;
    limit = h.shown.limit;
    counted = h.shown.counted;
    shown = ap (λ l. (written ++ old.lines.items) ++ l) empty ∙ append-nil (written ++ old.lines.items) ∙ h.shown.shown;
  });
  going = ap (λ (k : Counter). k.reader.error) same ∙ h.going;
  quiet = ap (λ (k : Counter). ready k.reader) same ∙ h.quiet;
  bytes = ap (λ (k : Counter). k.bytes) same ∙ h.bytes;
  small = h.small;
}

-- what holds of any error holds of a result
pub if_err : {A E : Type 0} (P : Type 0) (r : Result A E) → P → IfErr r (λ _. P)
if_err P (Ok x) p = tt
if_err P (Err e) p = p

pub stopped_memory : {A : Type 0} (bytes lines : List ℕ) (r : Result A StreamError) (e : StreamError) → r ≡ Err e → e ≡ stream.Memory → ShowsSome bytes lines
    → IfErr r (λ error. IsLast bytes lines error)
stopped_memory {A} bytes lines r e is memory some =
    subst (λ (q : Result A StreamError). IfErr q (λ error. IsLast bytes lines error)) (sym (is ∙ ap Err memory))
    (record { some = some; all = λ known. absurd (known refl) })

-- bytes that begin with others
pub more_some : (bytes more whole lines : List ℕ) → bytes ++ more ≡ whole → ShowsSome bytes lines → ShowsSome whole lines
more_some bytes more whole lines is some rest =
    let s = some (more ++ rest) in
    (s.0, s.1 ∙ ap (λ l. shown_events 0 (take s.0 (walk_of_tags l).events)) (sym (append_assoc bytes more rest) ∙ ap (λ l. l ++ rest) is))

-- the lines after a call that took bytes, or stopped within them
pub begins_taken : {A : Type 0} (r : Result A (Fault TagsFault)) (bytes written : List ℕ) (shower : Shower)
    → ((x : A) → r ≡ Ok x → IsShowing bytes written shower × (length bytes ≤ tags_limit))
    → ((fault : Fault TagsFault) → r ≡ Err fault → StopsShowing bytes (written ++ shower.lines.items) fault)
    → BeginsShown bytes (written ++ shower.lines.items)
begins_taken (Ok x) bytes written shower took stopped = let t = took x refl in begins_showing bytes written shower t.0 t.1
begins_taken (Err fault) bytes written shower took stopped = begins_stopped bytes (written ++ shower.lines.items) fault (stopped fault refl)

-- nothing is read and nothing is shown
pub show_nothing : (input : InputSeen) → IsShownBefore input input Memory []
show_nothing input = record {
  some = record { bytes = []; read = Consumes-nil input.left; shown = (0, refl) };
  all = tt;
}

pub written_text : (fed written : List ℕ) (shower : Shower) → IsShowing fed written shower → shower.lines.items ≡ [] → length fed ≤ tags_limit → written ≡ shown_text fed
written_text fed written shower h empty within =
    sym (append-nil written) ∙ ap (λ l. written ++ l) (sym empty) ∙ showing_text fed written shower h within

-- what was read before a read that failed is shown
pub show_read : (before after : InputSeen) (fed written : List ℕ) (shower : Shower) → IsShowing fed written shower → shower.lines.items ≡ [] → length fed ≤ tags_limit
    → Consumes before.left after.left fed → IsShownBefore before after Read written
show_read before after fed written shower h empty within read =
    let text = written_text fed written shower h empty within in
    record {
      some = record { bytes = fed; read = read; shown = begins_all fed written text };
      all = (fed, read, text);
    }

-- a read failed after bytes that are not refused
pub show_failed : (before after : InputSeen) (fed written : List ℕ) (shower : Shower) → IsShowing fed written shower → Consumes before.left after.left fed
    → length fed ≤ tags_limit → Rose before.faults after.faults → StopsReading before after Read
show_failed before after fed written shower h read within rose = failed_cause before after fed shower.counter read (is_counted fed written shower h) within rose

-- what was read, chunk by chunk
pub on_shown : (before after : InputSeen) (fed piece written : List ℕ) (shower : Shower) → Consumes before.left after.left (fed ++ piece) → length piece ≤ piece_limit
    → IsShowing fed written shower → length fed ≤ tags_limit → HasReadOn IsSoundSoFar before after
on_shown before after fed piece written shower read short h within = on_piece before after fed piece shower.counter read short (is_counted fed written shower h) within

-- a step stopped after what was written
pub step_stops : (input_before input_after : InputSeen) (before mid after : OutputSeen) (bytes written more : List ℕ) (stop : Stop)
    → Consumes input_before.left input_after.left bytes → input_after.faults ≡ input_before.faults → HasReadOn IsSoundSoFar input_before input_after
    → IsWritten before mid written → StepStops bytes (written ++ more) more mid after stop
    → ShowStops input_before input_after before after stop
step_stops input_before input_after before mid after bytes written more (Input fault) read faultless on told stops =
    let cause = show_cause input_before input_after bytes (written ++ more) fault read faultless on stops.0 in
    (cause.0, (written ++ more, cause.1, written_more before mid after written more told stops.1))
step_stops input_before input_after before mid after bytes written more Output read faultless on told stops = (
  written ++ more,
  record { shown = record { bytes = bytes; read = read; shown = stops.0 }; read_on = on; faultless = faultless; unopened = refl },
  cut_more before mid after written more told stops.1,
)

-- the end of the input, between two top tags or inside one
pub ended_whole : (before after : InputSeen) (fed written : List ℕ) (shower : Shower) (count : ℕ) → IsShowing fed written shower → shower.lines.items ≡ []
    → length fed ≤ tags_limit → Consumes before.left after.left fed → IsAtEnd after.left → after.faults ≡ before.faults → EndsCounted fed (Ok count)
    → IsShownWhole before after no_share written
ended_whole before after fed written shower count h empty within read end faultless ends =
    let found = some_tags fed h.small ends.0 in
    record {
      input = record { bytes = fed; read = read; end = end; faultless = faultless; within = within; tags = found.0; sound = found.1 };
      unopened = refl;
      written = written_text fed written shower h empty within ∙ within_whole fed within ∙ tags_shown found.0 fed found.1;
    }

pub ended_inside : (before after : InputSeen) (fed written : List ℕ) (shower : Shower) (e : StreamError) (fault : Fault TagsFault) → IsShowing fed written shower
    → shower.lines.items ≡ [] → length fed ≤ tags_limit → Consumes before.left after.left fed → IsAtEnd after.left → after.faults ≡ before.faults → EndsCounted fed (Err e)
    → fault ≡ tags_fault e → StopsReading before after fault × IsShownBefore before after fault written
ended_inside before after fed written shower e fault h empty within read end faultless ends is =
    let text = written_text fed written shower h empty within in (
      cut_cause before after fed e fault read end faultless within ends is,
      subst (λ f. IsShownBefore before after f written) (sym (is ∙ ap tags_fault ends.1)) (record {
        some = record { bytes = fed; read = read; shown = begins_all fed written text };
        all = of_input (λ input. written ≡ shown_text input) before.left after.left fed read end text;
      }),
    )
