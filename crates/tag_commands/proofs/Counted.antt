-- What a counter has counted, before and after a call.
use Rattle.std.proofs.Common.{◌≡◌, ◌≢◌, inl, inr, ℕ, zero, suc, ◌*◌, ◌+◌, ◌-◌, ◌<◌, ◌≤◌, ◌^◌, List, [], ◌∷◌, ◌++◌, length, take, Bool, true, false, if◌then◌else◌, Some, None, Ok, Err, codes, decimal, refl, sym, ap, subst, ◌∙◌, arith, length-append, append_assoc}
use Rattle.std.specs.Io.KnownBytes.{Consumes, IsAtEnd}
use Rattle.std.proofs.lemmas.List.{append-nil, take-append-le, take_at}
use Rattle.std.proofs.Math.Seq.{take-append-add}
use Rattle.code_table.specs.Standard.{standard_rows}
use Rattle.outside_net.specs.Counts.{Rose}
use Rattle.dmap_stream.specs.declared.event.Event.{Event}
use Rattle.dmap_stream.specs.declared.refusal.StreamError.{StreamError}
use Rattle.dmap_stream.specs.declared.refusal.StreamError.TheVariants as stream
use Rattle.dmap_stream.specs.Walk.{is_empty, between, inside, broken, walk_of}
use Rattle.dmap_stream.specs.Reading.{is_between}
use Rattle.dmap_stream.specs.Reader.{Reader, ready, taken, ReadAs, HasRead, TellsAs}
use Rattle.dmap_stream.proofs.Readings.{told, count_told}
use Rattle.tag_commands.specs.TopTags.{tags_limit, tag_limit}
use Rattle.tag_commands.specs.declared.counting.Counter.{Counter}
use Rattle.command_core.specs.declared.fault.Fault.{Fault}
use Rattle.command_core.specs.declared.fault.Fault.TheVariants.{Own, Read, Memory}
use Rattle.tag_commands.specs.declared.tags_fault.TagsFault.{TagsFault}
use Rattle.tag_commands.specs.declared.tags_fault.TagsFault.TheVariants.{Broken, TooLong}
use Rattle.tag_commands.specs.declared.tops.Tops.{Tops}
use Rattle.command_core.specs.Seen.{InputSeen, no_share}
use Rattle.command_core.specs.Causes.{piece_limit, HasReadOn}
use Rattle.command_core.proofs.Reading.{all_read_on, of_input, of_front}
use Rattle.tag_commands.specs.TopTags.{walk_of_tags, IsTooLong, HasTagFault, IsSoundSoFar, StopsReading, tags_fault}
use Rattle.tag_commands.specs.Check.{IsChecked}
use Rattle.tag_commands.specs.Counting.{after_event, no_tops, top_tags, HasCounted, IsCounted, IsShown, StopsAt, EndsCounted}
use Rattle.tag_commands.proofs.FewEvents.{total, few_tops, counted_more, takes_some}
use Rattle.tag_commands.proofs.Tagged.{some_tags, tags_counted}

pub none_left : (bytes : List ℕ) → length bytes ≡ 0 → bytes ≡ []
none_left [] h = refl
none_left (b ∷ bytes) h = absurd (cc)

-- a prefix of a chunk is all of it if nothing follows
pub whole_piece : (piece front behind : List ℕ) → piece ≡ front ++ behind → length behind ≡ 0 → piece ≡ front
whole_piece piece front behind split end = split ∙ ap (λ l. front ++ l) (none_left behind end) ∙ append-nil front

-- the counts are far below the end of their type
pub few_counted_tops : (fed : List ℕ) (r : Reader) (tops : Tops) → HasCounted fed r tops → length fed < 2 ^ 63 → tops.depth + tops.ended < 2 ^ 63
few_counted_tops fed r tops h few = omega (arith, few_tops fed h.handed r h.read, ap total h.counted)

-- one event more is returned and counted
pub counted_next : (fed : List ℕ) (old new : Reader) (tops tops_new : Tops) (event : Event) → HasCounted fed old tops
    → (new.rows ≡ old.rows) × (new.limit ≡ old.limit) → new.error ≡ old.error
    → ((bytes : List ℕ) (handed : List Event) → HasRead bytes handed old → HasRead bytes (handed ++ event ∷ []) new)
    → tops_new ≡ after_event tops event → HasCounted fed new tops_new
counted_next fed old new tops tops_new event h same error read is = record {
  handed = h.handed ++ event ∷ [];
  read = read fed h.handed h.read;
  going = error ∙ h.going;
  rows = same.0 ∙ h.rows;
  limit = same.1 ∙ h.limit;
  counted = is ∙ ap (λ t. after_event t event) h.counted ∙ sym (counted_more h.handed no_tops event);
}

-- more bytes are fed, and no event is returned
pub counted_fed : (fed more bytes : List ℕ) (old new : Reader) (tops : Tops) → HasCounted fed old tops
    → (new.rows ≡ old.rows) × (new.limit ≡ old.limit) → new.error ≡ None
    → ((bytes : List ℕ) (handed : List Event) → HasRead bytes handed old → HasRead (bytes ++ more) handed new)
    → fed ++ more ≡ bytes → HasCounted bytes new tops
counted_fed fed more bytes old new tops h same going read is = record {
  handed = h.handed;
  read = subst (λ l. HasRead l h.handed new) is (read fed h.handed h.read);
  going = going;
  rows = same.0 ∙ h.rows;
  limit = same.1 ∙ h.limit;
  counted = h.counted;
}

-- how many bytes the reader took
pub counted_taken : (fed : List ℕ) (r : Reader) (tops : Tops) → HasCounted fed r tops → taken r ≡ length fed
counted_taken fed r tops h = count_told fed h.handed r h.read h.going

-- a call of the reader takes a byte if nothing is ready
pub counted_takes : (fed piece : List ℕ) (old new : Reader) (tops : Tops) (n : ℕ) → HasCounted fed old tops → ready old ≡ []
    → (new.rows ≡ old.rows) × (new.limit ≡ old.limit) → new.error ≡ None
    → ((bytes : List ℕ) (handed : List Event) → HasRead bytes handed old → HasRead (bytes ++ take n piece) handed new)
    → (n < length piece → ready new ≢ []) → 0 < length piece → 0 < n
counted_takes fed piece old new tops n h quiet same going read more some =
    takes_some fed piece h.handed old new n h.read h.going quiet (read fed h.handed h.read) going same.0 same.1 more some

at_most_one : (es : List Event) → (if is_empty es then 0 else 1) ≤ 1
at_most_one [] = omega arith
at_most_one (e ∷ es) = omega arith

-- a step takes a byte, or it returns all that was ready
pub fewer_left : (before after : List Event) (left behind n : ℕ) → 0 < left → n ≤ left → behind ≡ left - n
    → (before ≡ [] → 0 < n) → (n ≡ 0 → after ≡ []) → 2 * behind + (if is_empty after then 0 else 1) < 2 * left + (if is_empty before then 0 else 1)
fewer_left before after left behind (suc n) some within is takes none = omega (arith, is, within, some, at_most_one after)
fewer_left [] after left behind zero some within is takes none = absurd (let n : 0 < zero = takes refl in omega (arith, n))
fewer_left (e ∷ before) after left behind zero some within is takes none = subst (λ es. 2 * behind + (if is_empty es then 0 else 1) < 2 * left + 1) (sym (none refl)) (omega (arith, is))

pub walked_by : (bytes : List ℕ) (r : Reader) → r.rows ≡ standard_rows → r.limit ≡ tag_limit → walk_of r.rows r.limit bytes ≡ walk_of_tags bytes
walked_by bytes r rows limit = ap (λ rs. walk_of rs r.limit bytes) rows ∙ ap (λ l. walk_of standard_rows l bytes) limit

-- a refusal is that of all bytes that begin with those that were fed
pub shown : (fed piece bytes : List ℕ) (old new : Reader) (tops : Tops) (e : StreamError) → HasCounted fed old tops
    → (new.rows ≡ old.rows) × (new.limit ≡ old.limit) → new.error ≡ Some e
    → ((bytes : List ℕ) (handed : List Event) → HasRead bytes handed old → HasRead (bytes ++ piece) handed new)
    → fed ++ piece ≡ bytes → IsShown bytes e
shown fed piece bytes old new tops e h same stopped read is known rest =
    let has : HasRead bytes h.handed new = subst (λ l. HasRead l h.handed new) is (read fed h.handed h.read) in
    ap (λ w. w.ending)
    (sym (walked_by (bytes ++ rest) new (same.0 ∙ h.rows) (same.1 ∙ h.limit)) ∙ (subst (ReadAs bytes h.handed new) stopped has).1 known rest)

unbroken_end : (b : Bool) (e : StreamError) → (if b then between else inside) ≢ broken e
unbroken_end true e h = absurd (cc)
unbroken_end false e h = absurd (cc)

told_as : (fed : List ℕ) (r : Reader) (tops : Tops) (h : HasCounted fed r tops) → TellsAs fed h.handed r None
told_as fed r tops h = subst (TellsAs fed h.handed r) h.going (told fed h.handed r h.read)

pub unbroken : (fed : List ℕ) (r : Reader) (tops : Tops) (e : StreamError) → HasCounted fed r tops → (walk_of_tags fed).ending ≢ broken e
unbroken fed r tops e h is =
    unbroken_end (is_between r.position) e
    (sym (ap (λ w. w.ending) (told_as fed r tops h)) ∙ ap (λ w. w.ending) (walked_by fed r h.rows h.limit) ∙ is)

tops_are : (fed : List ℕ) (r : Reader) (tops : Tops) → HasCounted fed r tops → ready r ≡ [] → tops.ended ≡ top_tags (walk_of_tags fed).events
tops_are fed r tops h quiet =
    ap (λ t. t.ended) h.counted
    ∙ ap (λ es. top_tags es)
    (sym (ap (λ w. w.events) (told_as fed r tops h) ∙ ap (λ es. h.handed ++ es) quiet ∙ append-nil h.handed) ∙ ap (λ w. w.events) (walked_by fed r h.rows h.limit))

-- the end of the bytes
pub ended_ok : (fed : List ℕ) (r : Reader) (tops : Tops) → HasCounted fed r tops → ready r ≡ [] → (walk_of r.rows r.limit fed).ending ≡ between
    → EndsCounted fed (Ok tops.ended)
ended_ok fed r tops h quiet is = (sym (ap (λ w. w.ending) (walked_by fed r h.rows h.limit)) ∙ is, tops_are fed r tops h quiet)

pub ended_err : (fed : List ℕ) (r : Reader) (tops : Tops) (e : StreamError) → HasCounted fed r tops
    → ((walk_of r.rows r.limit fed).ending ≡ inside) × (e ≡ stream.Truncated (length fed)) → EndsCounted fed (Err e)
ended_err fed r tops e h is = (sym (ap (λ w. w.ending) (walked_by fed r h.rows h.limit)) ∙ is.0, is.1)

-- bytes within the limit are all in what is read of an input that begins with them
pub within_limit : (bytes more : List ℕ) → length bytes ≤ tags_limit → take tags_limit (bytes ++ more) ≡ bytes ++ take (tags_limit - length bytes) more
within_limit bytes more within =
    ap (λ n. take n (bytes ++ more)) (let long : tags_limit ≡ length bytes + (tags_limit - length bytes) = omega (arith, within) in long)
    ∙ take-append-add bytes more (tags_limit - length bytes)

stops_by : (bytes : List ℕ) (e : StreamError) → (e ≢ stream.Memory → (rest : List ℕ) → (walk_of_tags (take tags_limit (bytes ++ rest))).ending ≡ broken e)
    → StopsAt bytes (tags_fault e)
stops_by bytes (stream.TooLarge at) h = ((λ is. absurd (cc)), h (λ is. absurd (cc)))
stops_by bytes (stream.TooDeep at) h = ((λ is. absurd (cc)), h (λ is. absurd (cc)))
stops_by bytes (stream.Overrun at code) h = ((λ is. absurd (cc)), h (λ is. absurd (cc)))
stops_by bytes (stream.ShortHead at) h = ((λ is. absurd (cc)), h (λ is. absurd (cc)))
stops_by bytes (stream.Truncated at) h = ((λ is. absurd (cc)), h (λ is. absurd (cc)))
stops_by bytes stream.Memory h = tt

-- a refusal of the bytes up to the limit, or of some of them
pub stops : (fed front piece : List ℕ) (e : StreamError) → length (fed ++ front) ≤ tags_limit → IsShown (fed ++ front) e
    → ((more : List ℕ) × (piece ≡ front ++ more)) → StopsAt (fed ++ piece) (tags_fault e)
stops fed front piece e within h split = stops_by (fed ++ piece) e (λ known rest.
    ap (λ l. (walk_of_tags (take tags_limit l)).ending)
    (append_assoc fed piece rest ∙ ap (λ l. fed ++ (l ++ rest)) split.1 ∙ ap (λ l. fed ++ l) (append_assoc front split.0 rest) ∙ sym (append_assoc fed front (split.0 ++ rest)))
    ∙ ap (λ l. (walk_of_tags l).ending) (within_limit (fed ++ front) (split.0 ++ rest) within)
    ∙ h known (take (tags_limit - length (fed ++ front)) (split.0 ++ rest)))

-- there are more bytes than are read, and no tag in those that are read is malformed
pub too_long : (fed front behind piece : List ℕ) (r : Reader) (tops : Tops) → length (fed ++ front) ≡ tags_limit → 0 < length behind → piece ≡ front ++ behind
    → HasCounted (fed ++ front) r tops → IsTooLong (fed ++ piece)
too_long fed front behind piece r tops full more split h =
    let same : fed ++ piece ≡ (fed ++ front) ++ behind = ap (λ l. fed ++ l) split ∙ sym (append_assoc fed front behind) in
    record {
      long = omega (arith, ap length same, length-append (fed ++ front) behind);
      sound = λ e is. unbroken (fed ++ front) r tops e h (ap (λ l. (walk_of_tags l).ending) (sym (ap (take tags_limit) same ∙ take_at (fed ++ front) behind tags_limit full)) ∙ is);
    }

-- more bytes than are read are there, whatever follows them
too_long_more : (bytes rest : List ℕ) → IsTooLong bytes → IsTooLong (bytes ++ rest)
too_long_more bytes rest long = record {
  long = let more = long.long in omega (arith, length-append bytes rest);
  sound = λ e is. long.sound e (ap (λ l. (walk_of_tags l).ending) (sym (take-append-le tags_limit bytes rest (let more = long.long in omega arith))) ∙ is);
}

-- what was read, chunk by chunk
pub on_piece : (before after : InputSeen) (fed piece : List ℕ) (counter : Counter) → Consumes before.left after.left (fed ++ piece) → length piece ≤ piece_limit
    → IsCounted fed counter → length fed ≤ tags_limit → HasReadOn IsSoundSoFar before after
on_piece before after fed piece counter read short counted within = record {
  front = fed;
  last = piece;
  read = read;
  short = short;
  on = record { within = within; sound = λ e is. unbroken fed counter.reader counter.tops e counted.counted is };
}

-- the error of what was read is one of the input
pub stopped_cause : (before after : InputSeen) (bytes : List ℕ) (fault : Fault TagsFault) → Consumes before.left after.left bytes → after.faults ≡ before.faults
    → HasReadOn IsSoundSoFar before after → StopsAt bytes fault → StopsReading before after fault
stopped_cause before after bytes (Own (Broken error)) read faultless on stop =
    record { words = stop.0; said = of_front (HasTagFault error) before.left after.left bytes read (λ rest. inl (stop.1 rest)); faultless = faultless; read_on = on }
stopped_cause before after bytes (Own TooLong) read faultless on stop =
    record { words = tt; said = of_front IsTooLong before.left after.left bytes read (λ rest. too_long_more bytes rest stop); faultless = faultless; read_on = on }
stopped_cause before after bytes Read read faultless on stop = absurd stop
stopped_cause before after bytes Memory read faultless on stop = tt

-- the input failed, after bytes that are not refused
pub failed_cause : (before after : InputSeen) (bytes : List ℕ) (counter : Counter) → Consumes before.left after.left bytes → IsCounted bytes counter
    → length bytes ≤ tags_limit → Rose before.faults after.faults → StopsReading before after Read
failed_cause before after bytes counter read counted within rose = record {
  bytes = bytes;
  read = read;
  on = record { within = within; sound = λ e is. unbroken bytes counter.reader counter.tops e counted.counted is };
  rose = rose;
}

inside_sound : (bytes : List ℕ) → length bytes ≤ tags_limit → (walk_of_tags bytes).ending ≡ inside → IsSoundSoFar bytes
inside_sound bytes within is = record { within = within; sound = λ e broke. let same : inside ≡ broken e = sym is ∙ broke in absurd (cc) }

-- bytes that end inside a top tag, at the end of the input
pub cut_cause : (before after : InputSeen) (bytes : List ℕ) (e : StreamError) (fault : Fault TagsFault) → Consumes before.left after.left bytes → IsAtEnd after.left
    → after.faults ≡ before.faults → length bytes ≤ tags_limit → EndsCounted bytes (Err e) → fault ≡ tags_fault e → StopsReading before after fault
cut_cause before after bytes e fault read end faultless within ends is =
    subst (StopsReading before after) (sym (is ∙ ap tags_fault ends.1))
    (record {
      words = λ h. absurd (cc);
      said = of_input (HasTagFault (stream.Truncated (length bytes))) before.left after.left bytes read end
          (inr (record { within = within; ending = ends.0; told = refl }));
      faultless = faultless;
      read_on = all_read_on IsSoundSoFar before after bytes read (inside_sound bytes within ends.0);
    })

-- an input that was read to its end, and ends between two top tags
pub ended_checked : (before after : InputSeen) (bytes line : List ℕ) (counter : Counter) (count : ℕ) → IsCounted bytes counter → length bytes ≤ tags_limit
    → Consumes before.left after.left bytes → IsAtEnd after.left → after.faults ≡ before.faults → EndsCounted bytes (Ok count)
    → line ≡ codes "ok " ++ decimal count ++ codes " tags " ++ decimal counter.bytes ++ codes " bytes" ++ 10 ∷ [] → IsChecked before after no_share line
ended_checked before after bytes line counter count counted within read end faultless ends told =
    let found = some_tags bytes counted.small ends.0 in
    let many : count ≡ length found.0 = ends.1 ∙ tags_counted found.0 bytes found.1 in
    record {
      input = record { bytes = bytes; read = read; end = end; faultless = faultless; within = within; tags = found.0; sound = found.1 };
      unopened = refl;
      written =
          told ∙ ap (λ n. codes "ok " ++ decimal n ++ codes " tags " ++ decimal counter.bytes ++ codes " bytes" ++ 10 ∷ []) many
          ∙ ap (λ n. codes "ok " ++ decimal (length found.0) ++ codes " tags " ++ decimal n ++ codes " bytes" ++ 10 ∷ []) counted.bytes;
    }
