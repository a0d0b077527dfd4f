-- What an edit and a stop leave, and how they stop.
use Rattle.std.proofs.Common.{◌≡◌, ◌<◌, ◌+◌, ℕ, Bool, false, List, [], length, Option, None, IfSome, Result, Ok, Err, Vec, Global, IfOk, IfErr, refl, sym, ap, ◌∙◌, subst, inl, inr}
use Rattle.outside_net.specs.Counts.{Rose}
use Rattle.outside_net.specs.Reading.{ConsumesUpTo, CountsReadFaults}
use Rattle.outside_net.specs.declared.reading.ReadError.{ReadError}
use Rattle.outside_net.specs.declared.reading.ReadError.TheVariants as reads
use Rattle.command_core.proofs.Reading.{all_read_on, failed_within, past_limit}
use Rattle.command_core.specs.declared.fault.Fault.{Fault}
use Rattle.command_core.specs.declared.fault.Fault.TheVariants.{Own, Read, Memory as want}
use Rattle.command_core.specs.declared.outcome.Outcome.{Outcome}
use Rattle.command_core.specs.Answers.{WritesError, WritesMemory}
use Rattle.command_core.proofs.Appending.{none_written}
use Rattle.command_core.specs.Endings.{Done, OutputCut, Refused as refused_ending, LineCut}
use Rattle.command_core.specs.Faults.{fault_status, read_fault}
use Rattle.command_core.specs.ReadRecords.{records_limit}
use Rattle.command_core.specs.Seen.{InputSeen, Seen, Run, IsUnread}
use Rattle.mirror_client.specs.declared.pushing.Pushed.{Pushed}
use Rattle.mirror_client.specs.declared.pushing.Pushed.TheVariants.{Revision as revision, Unchanged as unchanged, Stopped as stopped, Refused as refusal}
use Rattle.mirror_client.specs.declared.refusal.FollowError.{FollowError}
use Rattle.mirror_client.specs.declared.refusal.FollowError.TheVariants.{Refused as refused, BadReply, Ended, Listing, Codes, LinkFault, Memory}
use Rattle.mirror_client.specs.Pushes.{UnexpectedPush, push_text}
use Rattle.link_commands.specs.declared.edit.EditFault.{EditFault}
use Rattle.link_commands.specs.declared.edit.EditFault.TheVariants.{TooLong, Unreached, Refused, Link}
use Rattle.link_commands.specs.EditShare.{EditReadsOn, HasBody, HasPushed, HasSent, IsEditDone, IsPushRefusal, IsUnsent, StopsEdit, StopsPush, StopsSending, edit_meaning, edit_line, edit_status, push_fault, push_line}
use Rattle.link_commands.specs.Linked.{HasLinked, IsUnreached, LinkSeen, start_of}
use Rattle.link_commands.specs.Links.{link_status}
use Rattle.link_commands.specs.Meanings.{IsLinkAnswered, KeepsNet, LinkEnds}
use Rattle.link_commands.proofs.EndedFacts.{Promised, by_fault, by_idle, untouched}
use Rattle.link_commands.proofs.EditDecided.{edit_decided}
use Rattle.link_commands.proofs.LinkedFacts.{link_rose, written_part, written_whole}

-- ---- statuses

pub link_fails : (e : FollowError) → link_status e ≡ 0 → ⊥
link_fails (refused status) h = absurd (cc)
link_fails (BadReply at) h = absurd (cc)
link_fails (Ended at) h = absurd (cc)
link_fails (Listing error) h = absurd (cc)
link_fails (Codes error) h = absurd (cc)
link_fails LinkFault h = absurd (cc)
link_fails Memory h = absurd (cc)

-- only an error of the connection has the status of a network failure
pub link_is : (e : FollowError) → link_status e ≡ 6 → e ≡ LinkFault
link_is (refused status) h = absurd (cc)
link_is (BadReply at) h = absurd (cc)
link_is (Ended at) h = absurd (cc)
link_is (Listing error) h = absurd (cc)
link_is (Codes error) h = absurd (cc)
link_is LinkFault h = refl
link_is Memory h = absurd (cc)

edit_fails : (fault : Fault EditFault) → fault_status edit_status fault ≡ 0 → ⊥
edit_fails (Own TooLong) h = absurd (cc)
edit_fails (Own Unreached) h = absurd (cc)
edit_fails (Own (Refused status text)) h = absurd (cc)
edit_fails (Own (Link e)) h = link_fails e h
edit_fails Read h = absurd (cc)
edit_fails want h = absurd (cc)

-- ---- the network's error counter

sending_rose : (host : List ℕ) (stop : Bool) (before after : Seen) (link : LinkSeen) (fault : Fault EditFault) → HasLinked host before.around.net after.around.net link
    → StopsSending host stop before.input after.input link fault → fault_status edit_status fault ≡ 6 → Rose before.around.net.faults after.around.net.faults
sending_rose host stop before after link (Own TooLong) linked stops h = absurd (cc)
sending_rose host stop before after link (Own Unreached) linked stops h = absurd stops
sending_rose host stop before after link (Own (Refused status text)) linked stops h = absurd (cc)
sending_rose host stop before after link (Own (Link e)) linked stops h =
    let fault : StopsPush host stops.1.0 link LinkFault = subst (λ (x : FollowError). StopsPush host stops.1.0 link x) (link_is e h) stops.1.2 in
    link_rose host before.around.net after.around.net link linked fault.count
sending_rose host stop before after link Read linked stops h = absurd (cc)
sending_rose host stop before after link want linked stops h = absurd (cc)

stop_keeps : (host : List ℕ) (stop : Bool) (told : Run) (fault : Fault EditFault) (status : ℕ) → status ≡ fault_status edit_status fault
    → StopsEdit host stop told.before told.after fault → KeepsNet host told status
stop_keeps host stop told fault status s (inl u) = record {
  asked = inl u.0.net;
  rose = λ six. let bad : 9 ≡ 6 = sym (s ∙ ap (fault_status edit_status) u.1) ∙ six in absurd (cc);
  faultless = λ zero. absurd (edit_fails fault (sym s ∙ zero));
}
stop_keeps host stop told fault status s (inr (inl u)) =
    record { asked = inr u.unreached.asked; rose = λ six. u.unreached.rose; faultless = λ zero. absurd (edit_fails fault (sym s ∙ zero)) }
stop_keeps host stop told fault status s (inr (inr l)) = record {
  asked = inr l.linked.asked;
  rose = λ six. sending_rose host stop told.before told.after l.link fault l.linked l.stops (sym s ∙ six);
  faultless = λ zero. absurd (edit_fails fault (sym s ∙ zero));
}

keeps_net : (host : List ℕ) (stop : Bool) (told : Run) (status : ℕ) → LinkEnds (edit_meaning host stop) told status → KeepsNet host told status
keeps_net host stop told status (Done output, s, (done, w)) = record {
  asked = inr done.linked.asked;
  rose = λ six. let bad : 0 ≡ 6 = sym s ∙ six in absurd (cc);
  faultless = λ zero. done.linked.count.faultless done.sent.2.faultless;
}
keeps_net host stop told status (OutputCut output, s, c) = record {
  asked = inr c.begun.0.linked.asked;
  rose = λ six. let bad : 5 ≡ 6 = sym s ∙ six in absurd (cc);
  faultless = λ zero. let bad : 5 ≡ 0 = sym s ∙ zero in absurd (cc);
}
keeps_net host stop told status (refused_ending front fault, s, (stops, w)) = stop_keeps host stop told fault status s stops.0
keeps_net host stop told status (LineCut front fault, s, (stops, w)) = record {
  asked = (stop_keeps host stop told fault (fault_status edit_status fault) refl stops.0).asked;
  rose = λ six. let bad : 5 ≡ 6 = sym s ∙ six in absurd (cc);
  faultless = λ zero. let bad : 5 ≡ 0 = sym s ∙ zero in absurd (cc);
}

-- what is promised of every run
pub edit_promised : (host : List ℕ) (stop : Bool) → Promised (edit_meaning host stop)
edit_promised host stop told status ends =
    record { net = keeps_net host stop told status ends; decided = edit_decided host stop told status ends }

-- ---- out of memory in place of another error

pub wants_sending : (host : List ℕ) (stop : Bool) (before after : InputSeen) (link : LinkSeen) (fault : Fault EditFault) → StopsSending host stop before after link fault
    → StopsSending host stop before after link want
wants_sending host stop before after link (Own TooLong) stops = inl (stops.0.read_on, stops.1)
wants_sending host stop before after link (Own Unreached) stops = absurd stops
wants_sending host stop before after link (Own (Refused status text)) stops =
    inr (stops.0, stops.1, written_whole (push_text stops.0 host) (start_of link) stops.2.there stops.2.answer link.taken stops.2.exchanged stops.2.written)
wants_sending host stop before after link (Own (Link e)) stops =
    inr (stops.1.0, stops.1.1, written_part (push_text stops.1.0 host) (UnexpectedPush stops.1.0) (start_of link) link.taken e stops.1.2.stops)
wants_sending host stop before after link Read stops =
    inl (all_read_on (EditReadsOn stop) before after stops.1.bytes stops.1.read stops.1.on, stops.2)
wants_sending host stop before after link want stops = stops

-- ---- what came of it

err_or : Result (List ℕ) EditFault → EditFault → EditFault
err_or (Ok bytes) other = other
err_or (Err fault) other = fault

abbrev failed : EditFault → Result (List ℕ) EditFault
failed fault = Err fault

own_is : (status : ℕ) (text : List ℕ) (f : EditFault) → failed (Refused status text) ≡ Err f → Refused status text ≡ f
unfolding err_or
own_is status text f h = ap (λ (r : Result (List ℕ) EditFault). err_or r (Refused status text)) h

-- the line of the result was made, or the share refused
pub told_fault : (host : List ℕ) (stop : Bool) (before after : InputSeen) (body : Option (List ℕ)) (link : LinkSeen) (made : Pushed) (fault : Fault EditFault)
    → HasPushed host body link made → IsPushRefusal made fault → HasBody stop before after body → StopsSending host stop before after link fault
told_fault host stop before after body link made (Own own) pushed told has = by_made made own pushed told
  where
    by_made : (p : Pushed) (f : EditFault) → HasPushed host body link p → push_line p ≡ Err f → StopsSending host stop before after link (Own f)
    by_made (revision n) f x h = absurd (cc)
    by_made unchanged f x h = absurd (cc)
    by_made stopped f x h = absurd (cc)
    by_made (refusal status text) f x h = subst (λ (o : EditFault). StopsSending host stop before after link (Own o)) (own_is status text f h) (body, has, x)
told_fault host stop before after body link made Read pushed told has = absurd told
told_fault host stop before after body link made want pushed told has =
    inr (body, has, written_whole (push_text body host) (start_of link) pushed.there pushed.answer link.taken pushed.exchanged pushed.written)

-- the exchange ended early
pub pushing_fault : (host : List ℕ) (stop : Bool) (before after : InputSeen) (body : Option (List ℕ)) (link : LinkSeen) (e : FollowError) → StopsPush host body link e
    → HasBody stop before after body → StopsSending host stop before after link (push_fault e)
pushing_fault host stop before after body link (refused status) x has = (λ bad. absurd (cc), (body, has, x))
pushing_fault host stop before after body link (BadReply at) x has = (λ bad. absurd (cc), (body, has, x))
pushing_fault host stop before after body link (Ended at) x has = (λ bad. absurd (cc), (body, has, x))
pushing_fault host stop before after body link (Listing error) x has = (λ bad. absurd (cc), (body, has, x))
pushing_fault host stop before after body link (Codes error) x has = (λ bad. absurd (cc), (body, has, x))
pushing_fault host stop before after body link LinkFault x has = (λ bad. absurd (cc), (body, has, x))
pushing_fault host stop before after body link Memory x has =
    inr (body, has, written_part (push_text body host) (UnexpectedPush body) (start_of link) link.taken Memory x.stops)

-- the input was not read whole
pub reading_fault : (host : List ℕ) (stop : Bool) (before after : InputSeen) (link : LinkSeen) (e : ReadError) → stop ≡ false → IsUnsent link
    → (e ≡ reads.Failed → ConsumesUpTo records_limit before.left after.left) → ConsumesUpTo (records_limit + 32768) before.left after.left
    → (e ≡ reads.TooLong → IfSome before.left (λ input. records_limit < length input)) → CountsReadFaults {T = Vec ℕ Global} before.faults after.faults (Err e)
    → StopsSending host stop before after link (read_fault TooLong e)
reading_fault host stop before after link reads.Failed is unsent failed some long count =
    (is, failed_within (EditReadsOn stop) before after records_limit (λ bytes within. subst (λ (b : Bool). EditReadsOn b bytes) (sym is) within) (failed refl) count, unsent)
reading_fault host stop before after link reads.TooLong is unsent failed some long count = (
  record {
    reads = is;
    long = long refl;
    faultless = count;
    read_on = past_limit (EditReadsOn stop) before after records_limit (λ bytes within. subst (λ (b : Bool). EditReadsOn b bytes) (sym is) within) some;
  },
  unsent,
)
reading_fault host stop before after link reads.Memory is unsent failed some long count =
    inl (past_limit (EditReadsOn stop) before after records_limit (λ bytes within. subst (λ (b : Bool). EditReadsOn b bytes) (sym is) within) some, unsent)

-- ---- over a network

abbrev nothing : List ℕ
nothing = []

pub edit_done : (host : List ℕ) (stop : Bool) (before after : Seen) (link : LinkSeen) (answer : Result (Vec ℕ Global) (Fault EditFault)) → HasLinked host before.around.net after.around.net link
    → IfOk answer (λ bytes. (made : Pushed) × HasSent host stop before.input after.input link made × (push_line made ≡ Ok bytes.items))
    → IfOk answer (λ bytes. IsEditDone host stop before after bytes.items × (IsEditDone host stop before after bytes.items × (nothing ≡ [])))
edit_done host stop before after link (Ok bytes) linked h =
    let done : IsEditDone host stop before after bytes.items = record { link = link; linked = linked; made = h.0; sent = h.1; told = h.2 } in (done, (done, refl))
edit_done host stop before after link (Err fault) linked h = tt

pub edit_stops : (host : List ℕ) (stop : Bool) (before after : Seen) (link : LinkSeen) (answer : Result (Vec ℕ Global) (Fault EditFault)) → HasLinked host before.around.net after.around.net link
    → IfErr answer (λ fault. StopsSending host stop before.input after.input link fault)
    → IfErr answer (λ fault. (StopsEdit host stop before after fault × (nothing ≡ [])) × (StopsEdit host stop before after want × (nothing ≡ [])))
edit_stops host stop before after link (Ok bytes) linked h = tt
edit_stops host stop before after link (Err fault) linked h = (
  (inr (inr (record { link = link; linked = linked; stops = h })), refl),
  (inr (inr (record { link = link; linked = linked; stops = wants_sending host stop before.input after.input link fault h })), refl),
)

-- no connection was made
pub edit_unlinked : (host : List ℕ) (stop : Bool) (told : Run) (outcome : Outcome) → IsUnread told.before.input told.after.input
    → IsUnreached host told.before.around.net told.after.around.net
    → WritesError edit_line edit_status (Own Unreached) told.output_before told.output_after outcome → IsLinkAnswered (edit_meaning host stop) told outcome
edit_unlinked host stop told outcome unread unreached t =
    by_fault (edit_meaning host stop) (edit_promised host stop) told told.output_before outcome [] (Own Unreached)
    (inr (inl (record { unread = unread; unreached = unreached; is = inl refl })), refl)
    (inr (inl (record { unread = unread; unreached = unreached; is = inr refl })), refl) (none_written told.output_before) t

-- out of memory before anything was done
pub edit_idle : (host : List ℕ) (stop : Bool) (told : Run) (outcome : Outcome) → told.after ≡ told.before
    → WritesMemory None told.output_before told.output_after outcome → IsLinkAnswered (edit_meaning host stop) told outcome
edit_idle host stop told outcome same t =
    by_idle (edit_meaning host stop) (edit_promised host stop) told outcome (inl (untouched told.before told.after same, refl), refl) t
