-- What the bytes of a reply, read so far, show of the whole input.
use Rattle.std.proofs.Common.{◌≡◌, ◌≢◌, ◌<◌, ◌≤◌, ◌⊎◌, ◌++◌, nat_le, ℕ, List, [], ◌∷◌, length, take, drop, true, false, Option, Some, None, IfOk, IfErr, MatchOption, Result, Ok, Err, inl, inr, refl, sym, ap, subst, ◌∙◌, arith, length-append, append_assoc, append-nil}
use Rattle.std.specs.Io.KnownBytes.{Consumes, IsAtEnd}
use Rattle.std.proofs.Math.Seq.{take-append_seam}
use Rattle.std.proofs.lemmas.List.{take-append-drop, length-take, length-drop, take-append-le}
use Rattle.std.proofs.lemmas.Bool.{and_parts, and_from, le-leb, leb-true, cases_lt}
use Rattle.outside_net.specs.Counts.{Rose}
use Rattle.dmap_tags.specs.Spelling.{payload, spelling}
use Rattle.dmap_tags.specs.Codes.{code_of}
use Rattle.dmap_tags.specs.Tree.{Tree}
use Rattle.code_table.specs.declared.reply.CodeError.{CodeError}
use Rattle.code_table.specs.declared.reply.CodeError.TheVariants as table
use Rattle.code_table.specs.declared.row.CodeRow.{CodeRow}
use Rattle.code_table.specs.Reply.{table_of}
use Rattle.code_table.specs.Standard.{standard_rows}
use Rattle.dmap_stream.proofs.Heads.{IsHead}
use Rattle.dmap_stream.proofs.Spelled.{begins}
use Rattle.dmap_stream.proofs.TagsWalk.{tags_read}
use Rattle.dmap_stream.specs.Walk.{Walk, Ending, between, inside, broken, told_length}
use Rattle.dmap_tags.specs.Proper.{IsProperTag}
use Rattle.dmap_stream.specs.WholeTag.{is_accepted, refusal}
use Rattle.dmap_stream.specs.declared.refusal.StreamError.{StreamError}
use Rattle.dmap_stream.specs.declared.refusal.StreamError.TheVariants as stream
use Rattle.command_core.specs.declared.fault.Fault.{Fault}
use Rattle.command_core.specs.declared.fault.Fault.TheVariants.{Own, Read, Memory}
use Rattle.tag_commands.specs.declared.learn.LearnFault.{LearnFault}
use Rattle.tag_commands.specs.declared.learn.LearnFault.TheVariants.{Broken, Table}
use Rattle.tag_commands.specs.declared.learn.Learner.{Learner}
use Rattle.command_core.specs.Seen.{InputSeen}
use Rattle.command_core.specs.Causes.{piece_limit, HasReadOn}
use Rattle.command_core.proofs.Reading.{all_read_on, of_input, of_front}
use Rattle.tag_commands.specs.TopTags.{tag_limit, walk_of_tags}
use Rattle.tag_commands.specs.Counting.{IsShown}
use Rattle.tag_commands.specs.LearnCodes.{BeginsWith, HasNoTag, IsReply, HasNoReply, IsReplyRefused, IsUnfinished, IsReplySoFar, StopsReading, broken_fault, table_fault}
use Rattle.tag_commands.specs.Learning.{is_whole, IsLearning, IsRefusal, LearnStops}
use Rattle.tag_commands.proofs.Counted.{unbroken}

-- an accepted tag has a payload within the limit
within_limit : (t : Tree) → is_accepted standard_rows tag_limit t ≡ true → length (payload t) ≤ tag_limit
within_limit t accepted = leb-true (length (payload t)) tag_limit (and_parts _ _ (and_parts _ _ accepted).1).1

-- the head at the beginning of eight bytes and more
head_in_front : (bytes : List ℕ) → 8 ≤ length bytes → IsHead (take 8 bytes) (code_of (take 8 bytes)) (told_length (take 8 bytes))
head_in_front bytes many = record { count = length-take 8 bytes ∙ (omega arith); code = refl; told = refl }

-- a whole tag at the beginning has a head, and after it as many bytes as the head states
whole_in_front : (t : Tree) (rest bytes : List ℕ) → BeginsWith t rest bytes → is_whole bytes ≡ true
whole_in_front t rest bytes h =
    let many : 8 ≤ length bytes = omega (arith, ap length h.spelled) in
    let told = begins (take 8 bytes) (drop 8 bytes) rest (code_of (take 8 bytes)) (told_length (take 8 bytes)) t (head_in_front bytes many)
    (let small = within_limit t h.accepted in omega arith) (take-append-drop 8 bytes ∙ h.spelled) in
    and_from (nat_le 8 (length bytes)) (nat_le (told_length (take 8 bytes)) (length (drop 8 bytes))) (le-leb 8 (length bytes) many)
    (le-leb (told_length (take 8 bytes)) (length (drop 8 bytes)) (omega (arith, told.count, ap length told.left, length-append (payload t) rest)))

pub none_yet : (bytes : List ℕ) → is_whole bytes ≡ false → HasNoTag bytes
none_yet bytes short t rest h = let same : true ≡ false = sym (whole_in_front t rest bytes h) ∙ short in absurd (cc)

-- the bytes of one tag and nothing else end between two tags
alone : (t : Tree) (bytes : List ℕ) → spelling t ≡ bytes → is_accepted standard_rows tag_limit t ≡ true → IsProperTag t → (walk_of_tags bytes).ending ≡ between
alone t bytes is accepted proper =
    ap (λ l. (walk_of_tags l).ending) (sym (append-nil (spelling t) ∙ is))
    ∙ ap (λ (w : Walk). w.ending) (tags_read standard_rows tag_limit (t ∷ []) (omega arith) ((accepted, proper), tt))

-- if bytes are broken, whatever follows them, and do not begin with a tag, then no longer bytes that begin with them do
none_in_all : (bytes : List ℕ) (e : StreamError) → HasNoTag bytes → ((rest : List ℕ) → (walk_of_tags (bytes ++ rest)).ending ≡ broken e) → (rest : List ℕ) → HasNoTag (bytes ++ rest)
none_in_all bytes e none breaks rest t more h = elim (cases_lt (length bytes) (length (spelling t))) [
  | inl less ↦
      let part : spelling t ≡ bytes ++ drop (length bytes) (spelling t) =
      sym (take-append-drop (length bytes) (spelling t)) ∙ ap (λ l. l ++ drop (length bytes) (spelling t)) (
      sym (take-append-le (length bytes) (spelling t) more (omega arith)) ∙ ap (take (length bytes)) (sym h.spelled) ∙ take-append_seam bytes rest) in
      let same : between ≡ broken e = sym (alone t (bytes ++ drop (length bytes) (spelling t)) part h.accepted h.proper) ∙ breaks (drop (length bytes) (spelling t)) in
      absurd (cc)
  | inr within ↦
      none t (drop (length (spelling t)) bytes) (record {
        spelled = sym (take-append-drop (length (spelling t)) bytes) ∙ ap (λ l. l ++ drop (length (spelling t)) bytes) (
            sym (take-append-le (length (spelling t)) bytes rest within) ∙ ap (take (length (spelling t))) h.spelled ∙ take-append_seam (spelling t) more);
        accepted = h.accepted;
        proper = h.proper;
      })
]

-- a tag that was read from the beginning
pub front_tag : (tag : Tree) (len : ℕ) (bytes : List ℕ) → take len bytes ≡ spelling tag → is_accepted standard_rows tag_limit tag ≡ true → IsProperTag tag
    → BeginsWith tag (drop len bytes) bytes
front_tag tag len bytes is accepted proper = record {
  spelled = sym (take-append-drop len bytes) ∙ ap (λ l. l ++ drop len bytes) is;
  accepted = accepted;
  proper = proper;
}

none_behind : (len : ℕ) (bytes : List ℕ) → length bytes ≤ len → drop len bytes ≡ []
none_behind len bytes all = empty (drop len bytes) (omega (arith, length-drop len bytes))
  where
    empty : (l : List ℕ) → length l ≡ 0 → l ≡ []
    empty [] h = refl
    empty (x ∷ l) h = absurd (omega arith)

some_behind : (len : ℕ) (bytes : List ℕ) → len < length bytes → drop len bytes ≢ []
some_behind len bytes more is = absurd (omega (arith, length-drop len bytes, ap length is))

pub whole_reply : (tag : Tree) (len : ℕ) (bytes : List ℕ) (rows : List CodeRow) → BeginsWith tag (drop len bytes) bytes → length bytes ≤ len
    → table_of tag ≡ Ok rows → IsReply rows bytes
whole_reply tag len bytes rows h all told = record { tag = tag; whole = subst (λ rest. BeginsWith tag rest bytes) (none_behind len bytes all) h; told = told }

pub more_behind : (tag : Tree) (len : ℕ) (bytes : List ℕ) (rows : List CodeRow) → BeginsWith tag (drop len bytes) bytes → len < length bytes
    → table_of tag ≡ Ok rows → IsReplyRefused table.NotReply bytes
more_behind tag len bytes rows h more told =
    record { tag = tag; rest = drop len bytes; whole = h; refused = inr (refl, (some_behind len bytes more, (rows, told))) }

pub no_table : (tag : Tree) (rest bytes : List ℕ) (e : CodeError) → BeginsWith tag rest bytes → (e ≢ table.Memory → table_of tag ≡ Err e) → IsRefusal bytes (table_fault e)
no_table tag rest bytes table.NotReply h told = (λ is. absurd (cc), record { tag = tag; rest = rest; whole = h; refused = inl (told (λ is. absurd (cc))) })
no_table tag rest bytes (table.Entry index) h told = (λ is. absurd (cc), record { tag = tag; rest = rest; whole = h; refused = inl (told (λ is. absurd (cc))) })
no_table tag rest bytes (table.Repeated index) h told = (λ is. absurd (cc), record { tag = tag; rest = rest; whole = h; refused = inl (told (λ is. absurd (cc))) })
no_table tag rest bytes table.Memory h told = tt

pub begun_by : (bytes : List ℕ) → HasNoTag bytes → ((walk_of_tags bytes).ending ≡ between) ⊎ ((walk_of_tags bytes).ending ≡ inside) → IsUnfinished bytes
begun_by bytes none (inl is) = record { open_ = none; sound = λ e broke. let same : between ≡ broken e = sym is ∙ broke in absurd (cc) }
begun_by bytes none (inr is) = record { open_ = none; sound = λ e broke. let same : inside ≡ broken e = sym is ∙ broke in absurd (cc) }

-- a refusal of bytes that are not merely too few
broken_by : (n : ℕ) (ending : Ending) (e : StreamError) → e ≡ refusal n ending → ((at : ℕ) → e ≢ stream.Truncated at) → ending ≡ broken e
broken_by n between e is more = absurd (more n is)
broken_by n inside e is more = absurd (more n is)
broken_by n (broken f) e is more = ap broken (sym is)

pub no_tag : (bytes : List ℕ) (e : StreamError) → (e ≢ stream.Memory → HasNoTag bytes) → (e ≢ stream.Memory → e ≡ refusal (length bytes) (walk_of_tags bytes).ending)
    → ((at : ℕ) → e ≢ stream.Truncated at) → IsRefusal bytes (broken_fault e)
no_tag bytes (stream.TooLarge at) none told more =
    let known = λ (is : stream.TooLarge at ≡ stream.Memory). absurd (cc) in (none known, (known, broken_by (length bytes) (walk_of_tags bytes).ending (stream.TooLarge at) (told known) more))
no_tag bytes (stream.TooDeep at) none told more =
    let known = λ (is : stream.TooDeep at ≡ stream.Memory). absurd (cc) in (none known, (known, broken_by (length bytes) (walk_of_tags bytes).ending (stream.TooDeep at) (told known) more))
no_tag bytes (stream.Overrun at code) none told more =
    let known = λ (is : stream.Overrun at code ≡ stream.Memory). absurd (cc) in (none known, (known, broken_by (length bytes) (walk_of_tags bytes).ending (stream.Overrun at code) (told known) more))
no_tag bytes (stream.ShortHead at) none told more =
    let known = λ (is : stream.ShortHead at ≡ stream.Memory). absurd (cc) in (none known, (known, broken_by (length bytes) (walk_of_tags bytes).ending (stream.ShortHead at) (told known) more))
no_tag bytes (stream.Truncated at) none told more = absurd (more at refl)
no_tag bytes stream.Memory none told more = tt

-- what is said of a tag at the beginning of bytes is said of it at the beginning of more
begins_more : (tag : Tree) (rest bytes more : List ℕ) → BeginsWith tag rest bytes → BeginsWith tag (rest ++ more) (bytes ++ more)
begins_more tag rest bytes more h =
    record { spelled = ap (λ l. l ++ more) h.spelled ∙ append_assoc (spelling tag) rest more; accepted = h.accepted; proper = h.proper }

not_empty : (rest more : List ℕ) → rest ≢ [] → rest ++ more ≢ []
not_empty [] more some is = some refl
not_empty (x ∷ rest) more some is = absurd (cc)

refused_more : (error : CodeError) (bytes more : List ℕ) → IsReplyRefused error bytes → IsReplyRefused error (bytes ++ more)
refused_more error bytes more h = record {
  tag = h.tag;
  rest = h.rest ++ more;
  whole = begins_more h.tag h.rest bytes more h.whole;
  refused = elim h.refused [ inl bad ↦ inl bad | inr bad ↦ inr (bad.0, (not_empty h.rest more bad.1.0, bad.1.1)) ];
}

pub broken_whole : (bytes : List ℕ) (d e : StreamError) → IsShown bytes d → d ≢ stream.Memory → (walk_of_tags bytes).ending ≡ broken e
    → (rest : List ℕ) → (walk_of_tags (bytes ++ rest)).ending ≡ broken e
broken_whole bytes d e shown known is rest =
    let same : broken d ≡ broken e = sym (shown known []) ∙ ap (λ l. (walk_of_tags l).ending) (append-nil bytes) ∙ is in
    shown known rest ∙ same

-- an error of the bytes is one of all that begin with them
pub stops_all : (bytes : List ℕ) (f : Fault LearnFault) → ((e : StreamError) → (walk_of_tags bytes).ending ≡ broken e → (rest : List ℕ) → (walk_of_tags (bytes ++ rest)).ending ≡ broken e)
    → IsRefusal bytes f → LearnStops bytes f
stops_all bytes (Own (Broken error)) breaks h = (
  h.1.0,
  λ rest. record {
    none = none_in_all bytes error h.0 (breaks error h.1.1) rest;
    told = sym (ap (refusal (length (bytes ++ rest))) (breaks error h.1.1 rest));
  },
)
stops_all bytes (Own (Table error)) breaks h = (h.0, λ rest. refused_more error bytes rest h.1)
stops_all bytes Read breaks h = h
stops_all bytes Memory breaks h = h

-- the error of what was read is one of the input
pub learn_cause : (before after : InputSeen) (bytes : List ℕ) (f : Fault LearnFault) → Consumes before.left after.left bytes → after.faults ≡ before.faults
    → HasReadOn IsReplySoFar before after → LearnStops bytes f → StopsReading before after f
learn_cause before after bytes (Own (Broken error)) read faultless on stop =
    record { words = stop.0; said = of_front (HasNoReply error) before.left after.left bytes read stop.1; faultless = faultless; read_on = on }
learn_cause before after bytes (Own (Table error)) read faultless on stop =
    record { words = stop.0; said = of_front (IsReplyRefused error) before.left after.left bytes read stop.1; faultless = faultless; read_on = on }
learn_cause before after bytes Read read faultless on stop = absurd stop
learn_cause before after bytes Memory read faultless on stop = tt

pub begun : (bytes : List ℕ) (learner : Learner) → IsLearning bytes learner → IsUnfinished bytes
begun bytes learner h = record {
  open_ = h.open_;
  sound = λ e is. unbroken bytes learner.counter.reader learner.counter.tops e h.counted.counted is;
}

-- the bytes ended before the reply was whole
cut_reply : (bytes : List ℕ) (ending : Ending) → IsUnfinished bytes → (walk_of_tags bytes).ending ≡ ending → stream.Truncated (length bytes) ≡ refusal (length bytes) ending
cut_reply bytes between h is = refl
cut_reply bytes inside h is = refl
cut_reply bytes (broken e) h is = absurd (h.sound e is)

pub early_cause : (before after : InputSeen) (bytes : List ℕ) → Consumes before.left after.left bytes → IsAtEnd after.left → after.faults ≡ before.faults
    → IsUnfinished bytes → StopsReading before after (Own (Broken (stream.Truncated (length bytes))))
early_cause before after bytes read end faultless h = record {
  words = λ is. absurd (cc);
  said = of_input (HasNoReply (stream.Truncated (length bytes))) before.left after.left bytes read end
      (record { none = h.open_; told = cut_reply bytes (walk_of_tags bytes).ending h refl });
  faultless = faultless;
  read_on = all_read_on IsReplySoFar before after bytes read (inl h);
}

-- more bytes were read after the reply
pub behind_cause : (before after : InputSeen) (bytes more : List ℕ) (rows : List CodeRow) → Consumes before.left after.left (bytes ++ more) → more ≢ []
    → length more ≤ piece_limit → after.faults ≡ before.faults → IsReply rows bytes → StopsReading before after (Own (Table table.NotReply))
behind_cause before after bytes more rows read some short faultless reply =
    learn_cause before after (bytes ++ more) (Own (Table table.NotReply)) read faultless
    (record { front = bytes; last = more; read = read; short = short; on = inr (rows, reply) }) (
      λ is. absurd (cc),
      λ rest. refused_more table.NotReply (bytes ++ more) rest (record {
        tag = reply.tag;
        rest = [] ++ more;
        whole = begins_more reply.tag [] bytes more reply.whole;
        refused = inr (refl, (some, (rows, reply.told)));
      }),
    )

pub failed_begun : (before after : InputSeen) (bytes : List ℕ) → Consumes before.left after.left bytes → IsUnfinished bytes → Rose before.faults after.faults
    → StopsReading before after Read
failed_begun before after bytes read h rose = record { bytes = bytes; read = read; on = inl h; rose = rose }

pub failed_behind : (before after : InputSeen) (bytes : List ℕ) (rows : List CodeRow) → Consumes before.left after.left bytes → IsReply rows bytes
    → Rose before.faults after.faults → StopsReading before after Read
failed_behind before after bytes rows read reply rose = record { bytes = bytes; read = read; on = inr (rows, reply); rose = rose }

-- what judging the bytes says if they are broken
pub told_broken : (P : Type 0) (bytes : List ℕ) (r : Result (Option (List CodeRow)) (Fault LearnFault)) → (IsUnfinished bytes → ⊥)
    → IfOk r (λ learned. MatchOption learned (IsUnfinished bytes) (λ rows. IsReply rows bytes)) → IfOk r (λ learned. MatchOption learned P (λ rows. IsReply rows bytes))
told_broken P bytes (Ok None) sound told = absurd (sound told)
told_broken P bytes (Ok (Some rows)) sound told = told
told_broken P bytes (Err f) sound told = tt

pub all_stop : (bytes : List ℕ) (r : Result (Option (List CodeRow)) (Fault LearnFault))
    → ((e : StreamError) → (walk_of_tags bytes).ending ≡ broken e → (rest : List ℕ) → (walk_of_tags (bytes ++ rest)).ending ≡ broken e)
    → IfErr r (IsRefusal bytes) → IfErr r (LearnStops bytes)
all_stop bytes (Ok learned) breaks refused = tt
all_stop bytes (Err f) breaks refused = stops_all bytes f breaks refused
