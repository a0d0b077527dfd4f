-- What decides the status of a run of `edit`.
use Rattle.std.proofs.Common.{◌≡◌, ◌≢◌, ◌<◌, ◌++◌, ℕ, Bool, true, false, List, [], length, Option, Some, None, IfSome, Ok, refl, sym, ap, ◌∙◌, subst, inl, inr, append-nil, arith}
use Rattle.http_heads.specs.Messages.{print_message}
use Rattle.http_client.specs.Replies.{Reply}
use Rattle.command_core.specs.declared.fault.Fault.{Fault}
use Rattle.command_core.specs.declared.fault.Fault.TheVariants.{Own, Read, Memory as wanted}
use Rattle.command_core.specs.Endings.{Done, OutputCut, Refused as refused_ending, LineCut}
use Rattle.command_core.specs.Faults.{fault_line, fault_status}
use Rattle.command_core.specs.ReadRecords.{records_limit}
use Rattle.command_core.specs.Seen.{InputSeen, Run}
use Rattle.command_core.proofs.Reading.{read_whole}
use Rattle.mirror_client.specs.declared.pushing.Pushed.{Pushed}
use Rattle.mirror_client.specs.declared.pushing.Pushed.TheVariants as pushed
use Rattle.mirror_client.specs.declared.refusal.FollowError.{FollowError}
use Rattle.mirror_client.specs.declared.refusal.FollowError.TheVariants.{Refused as status_refused, BadReply, Ended, Listing, Codes, LinkFault, Memory}
use Rattle.mirror_client.specs.Exchanges.{Exchanged}
use Rattle.mirror_client.specs.Points.{Point}
use Rattle.mirror_client.specs.Pushes.{IsPushed, UnexpectedEdit, UnexpectedPush, push_text}
use Rattle.mirror_client.specs.Stopping.{CountsFault}
use Rattle.link_commands.proofs.FirstReply.{IsOutside, answer_is, owed_split, stops_outside}
use Rattle.link_commands.specs.declared.edit.EditFault.{EditFault}
use Rattle.link_commands.specs.declared.edit.EditFault.TheVariants.{TooLong, Unreached, Refused, Link}
use Rattle.link_commands.specs.Decided.{BeginsDue, DecidesEdit, IsDueAnswer, IsOrMemory, IsSendable}
use Rattle.link_commands.specs.EditShare.{HasBody, IsEditDone, IsTooLong, StopsEdit, StopsSending, edit_line, edit_meaning, edit_status, push_line}
use Rattle.link_commands.specs.Linked.{HasLinked, LinkSeen, start_of}
use Rattle.link_commands.specs.Links.{link_status}
use Rattle.link_commands.specs.Meanings.{LinkEnds}
use Rattle.link_commands.specs.Promises.{IsFaultless}
use Rattle.link_commands.proofs.LinkedFacts.{behind_rose, left_is, link_rose, owed_is}

-- ---- what is sent

-- an input that is too long is not sent
body_or_long : (stop : Bool) (before after : InputSeen) (body : Option (List ℕ)) (input : List ℕ) → stop ≡ false → before.left ≡ Some input → HasBody stop before after body
    → records_limit < length input → ⊥
body_or_long true before after body input reads known has long = absurd (cc)
body_or_long false before after None input reads known has long = has
body_or_long false before after (Some bytes) input reads known has long =
    omega (arith, ap length (read_whole input bytes before.left after.left known has.read has.end), has.within, long)

long_or_sendable : (stop : Bool) (before after : InputSeen) → IsSendable stop before.left → IsTooLong stop before after → ⊥
long_or_sendable true before after within long = let bad : true ≡ false = long.reads in absurd (cc)
long_or_sendable false before after within long =
    let more : records_limit < length within.0 = subst (λ (left : Option (List ℕ)). IfSome left (λ input. records_limit < length input)) within.1 long.long in
    omega (arith, more, within.2)

-- ---- the reply

-- an expected reply is not a refusal
refusal_due : (stop : Bool) (body : Option (List ℕ)) (before after : InputSeen) (answer : Reply) (status : ℕ) (text : List ℕ) → HasBody stop before after body → IsDueAnswer stop answer
    → IsPushed body answer (pushed.Refused status text) → ⊥
refusal_due true None before after answer status text has due is = is.1 (is.0.0 ∙ due)
refusal_due true (Some bytes) before after answer status text has due is = has
refusal_due false None before after answer status text has due is = has
refusal_due false (Some bytes) before after answer status text has (inl none) is = is.2 (is.0.0 ∙ none)
refusal_due false (Some bytes) before after answer status text has (inr made) is = is.1 (is.0.0 ∙ made.1.1.0)

edit_due : (used : ℕ) (answer : Reply) (e : FollowError) → IsDueAnswer false answer → UnexpectedEdit used answer e → IsOutside e
edit_due used answer (status_refused status) due h = absurd h
edit_due used answer (BadReply at) (inl none) h = absurd (omega (arith, none, h.0.0))
edit_due used answer (BadReply at) (inr made) h = let bad : Some made.0 ≡ None = sym made.1.2 ∙ h.1 made.1.0 made.1.1.1 in absurd (cc)
edit_due used answer (Ended at) due h = absurd h
edit_due used answer (Listing error) due h = absurd h
edit_due used answer (Codes error) due h = absurd h
edit_due used answer LinkFault due h = absurd h
edit_due used answer Memory due h = inr refl

push_due : (stop : Bool) (body : Option (List ℕ)) (before after : InputSeen) (used : ℕ) (answer : Reply) (e : FollowError) → HasBody stop before after body → IsDueAnswer stop answer
    → UnexpectedPush body used answer e → IsOutside e
push_due true None before after used answer e has due h = absurd h
push_due true (Some bytes) before after used answer e has due h = absurd has
push_due false None before after used answer e has due h = absurd has
push_due false (Some bytes) before after used answer e has due h = edit_due used answer e due h

-- a run that succeeded got the expected reply
made_due : (stop : Bool) (body : Option (List ℕ)) (before after : InputSeen) (answer : Reply) (made : Pushed) (output : List ℕ) → HasBody stop before after body → IsPushed body answer made
    → push_line made ≡ Ok output → IsDueAnswer stop answer
made_due true None before after answer (pushed.Revision n) output has is told = absurd is
made_due true None before after answer pushed.Unchanged output has is told = absurd is
made_due true None before after answer pushed.Stopped output has is told = is
made_due true None before after answer (pushed.Refused status text) output has is told = absurd (cc)
made_due true (Some bytes) before after answer made output has is told = absurd has
made_due false None before after answer made output has is told = absurd has
made_due false (Some bytes) before after answer (pushed.Revision n) output has is told = inr (n, is)
made_due false (Some bytes) before after answer pushed.Unchanged output has is told = inl is
made_due false (Some bytes) before after answer pushed.Stopped output has is told = absurd is
made_due false (Some bytes) before after answer (pushed.Refused status text) output has is told = absurd (cc)

-- the reply of the exchange is the first one in the bytes
answered_as : (stop : Bool) (link : LinkSeen) (request : List ℕ) (there : Point) (answer : Reply) (bytes : List ℕ) → (start_of link).owed ≡ Some bytes → (b : BeginsDue stop bytes)
    → Exchanged request (start_of link) there answer → b.answer ≡ answer
answered_as stop link request there answer bytes owed b x =
    let split = owed_split (start_of link).owed there.owed bytes (print_message x.message ++ []) owed x.went.read in
    sym (answer_is x.message answer b.answer bytes split.0 b.rest x.went.answered.0
    (split.1 ∙ ap (λ (front : List ℕ). front ++ split.0) (append-nil (print_message x.message))) (record { message = b.message; is = b.is; split = b.split })).0

done_begins : (host : List ℕ) (stop : Bool) (told : Run) (output bytes : List ℕ) → IsEditDone host stop told.before told.after output
    → told.before.around.net.next_input ≡ Some bytes → BeginsDue stop bytes
done_begins host stop told output bytes done known =
    let owed = owed_is done.link bytes (left_is told.before.around.net.next_input done.link.left bytes known done.linked.input) in
    let push = done.sent.2 in
    let x = push.exchanged in
    let split = owed_split (start_of done.link).owed push.there.owed bytes (print_message x.message ++ []) owed x.went.read in
    record {
      message = x.message;
      answer = push.answer;
      rest = split.0;
      is = x.went.answered.0;
      split = split.1 ∙ ap (λ (front : List ℕ). front ++ split.0) (append-nil (print_message x.message));
      due = made_due stop done.sent.0 told.before.input told.after.input push.answer done.made output done.sent.1 push.is done.told;
    }

-- ---- each cause and its status

pub link_unexpected : (e : FollowError) → e ≢ Memory → (e ≡ LinkFault → ⊥) → link_status e ≡ 7
link_unexpected (status_refused status) other whole = refl
link_unexpected (BadReply at) other whole = refl
link_unexpected (Ended at) other whole = refl
link_unexpected (Listing error) other whole = refl
link_unexpected (Codes error) other whole = refl
link_unexpected LinkFault other whole = absurd (whole refl)
link_unexpected Memory other whole = absurd (other refl)

-- no error was counted on the connection
no_fault : (host : List ℕ) (told : Run) (link : LinkSeen) (e : FollowError) → HasLinked host told.before.around.net told.after.around.net link → CountsFault 0 link.faults e → IsFaultless told
    → e ≡ LinkFault → ⊥
no_fault host told link e linked count faultless fault =
    faultless.net (link_rose host told.before.around.net told.after.around.net link linked (subst (λ (f : FollowError). CountsFault 0 link.faults f) fault count))

sent_long : (host : List ℕ) (stop : Bool) (told : Run) (status : ℕ) (link : LinkSeen) (fault : Fault EditFault) (input : List ℕ) → status ≡ fault_status edit_status fault
    → StopsSending host stop told.before.input told.after.input link fault → IsFaultless told → stop ≡ false → told.before.input.left ≡ Some input → records_limit < length input
    → IsOrMemory 8 status
sent_long host stop told status link (Own TooLong) input e stops faultless reads known long = inl e
sent_long host stop told status link (Own Unreached) input e stops faultless reads known long = absurd stops
sent_long host stop told status link (Own (Refused code text)) input e stops faultless reads known long =
    absurd (body_or_long stop told.before.input told.after.input stops.0 input reads known stops.1 long)
sent_long host stop told status link (Own (Link error)) input e stops faultless reads known long =
    absurd (body_or_long stop told.before.input told.after.input stops.1.0 input reads known stops.1.1 long)
sent_long host stop told status link Read input e stops faultless reads known long = absurd (faultless.input stops.1.rose)
sent_long host stop told status link wanted input e stops faultless reads known long = inr e

sent_due : (host : List ℕ) (stop : Bool) (told : Run) (status : ℕ) (link : LinkSeen) (fault : Fault EditFault) (bytes : List ℕ) → status ≡ fault_status edit_status fault
    → HasLinked host told.before.around.net told.after.around.net link → StopsSending host stop told.before.input told.after.input link fault → IsFaultless told
    → IsSendable stop told.before.input.left → told.before.around.net.next_input ≡ Some bytes → BeginsDue stop bytes → IsOrMemory 0 status
sent_due host stop told status link (Own TooLong) bytes e linked stops faultless within known b =
    absurd (long_or_sendable stop told.before.input told.after.input within stops.0)
sent_due host stop told status link (Own Unreached) bytes e linked stops faultless within known b = absurd stops
sent_due host stop told status link (Own (Refused code text)) bytes e linked stops faultless within known b =
    let owed = owed_is link bytes (left_is told.before.around.net.next_input link.left bytes known linked.input) in
    let same = answered_as stop link (push_text stops.0 host) stops.2.there stops.2.answer bytes owed b stops.2.exchanged in
    absurd (refusal_due stop stops.0 told.before.input told.after.input stops.2.answer code text stops.1 (subst (λ (a : Reply). IsDueAnswer stop a) same b.due) stops.2.is)
sent_due host stop told status link (Own (Link error)) bytes e linked stops faultless within known b =
    let owed = owed_is link bytes (left_is told.before.around.net.next_input link.left bytes known linked.input) in
    absurd (by_outside (stops_outside (push_text stops.1.0 host) (UnexpectedPush stops.1.0) (start_of link) link.taken error bytes b.rest b.answer owed
    (record { message = b.message; is = b.is; split = b.split }) (λ used x. push_due stop stops.1.0 told.before.input told.after.input used b.answer error stops.1.1 b.due x) stops.1.2.stops))
  where
    by_outside : IsOutside error → ⊥
    by_outside (inl fault) = no_fault host told link error linked stops.1.2.count faultless fault
    by_outside (inr memory) = stops.0 memory
sent_due host stop told status link Read bytes e linked stops faultless within known b = absurd (faultless.input stops.1.rose)
sent_due host stop told status link wanted bytes e linked stops faultless within known b = inr e

sent_unexpected : (host : List ℕ) (stop : Bool) (told : Run) (status : ℕ) (link : LinkSeen) (fault : Fault EditFault) → status ≡ fault_status edit_status fault
    → HasLinked host told.before.around.net told.after.around.net link → StopsSending host stop told.before.input told.after.input link fault → IsFaultless told
    → IsSendable stop told.before.input.left → IsOrMemory 7 status
sent_unexpected host stop told status link (Own TooLong) e linked stops faultless within = absurd (long_or_sendable stop told.before.input told.after.input within stops.0)
sent_unexpected host stop told status link (Own Unreached) e linked stops faultless within = absurd stops
sent_unexpected host stop told status link (Own (Refused code text)) e linked stops faultless within = inl e
sent_unexpected host stop told status link (Own (Link error)) e linked stops faultless within =
    inl (e ∙ link_unexpected error stops.0 (no_fault host told link error linked stops.1.2.count faultless))
sent_unexpected host stop told status link Read e linked stops faultless within = absurd (faultless.input stops.1.rose)
sent_unexpected host stop told status link wanted e linked stops faultless within = inr e

-- ---- a run

-- an error that ends a run over a connection, or out of memory
by_fault : (host : List ℕ) (stop : Bool) (told : Run) (status n : ℕ) (fault : Fault EditFault) → status ≡ fault_status edit_status fault → StopsEdit host stop told.before told.after fault
    → IsFaultless told
    → ((link : LinkSeen) → HasLinked host told.before.around.net told.after.around.net link → StopsSending host stop told.before.input told.after.input link fault → IsOrMemory n status)
    → IsOrMemory n status
by_fault host stop told status n fault e (inl idle) faultless f = inr (e ∙ ap (fault_status edit_status) idle.1)
by_fault host stop told status n fault e (inr (inl u)) faultless f = absurd (faultless.net u.unreached.rose)
by_fault host stop told status n fault e (inr (inr l)) faultless f = f l.link l.linked l.stops

pub edit_decided : (host : List ℕ) (stop : Bool) (told : Run) (status : ℕ) → LinkEnds (edit_meaning host stop) told status → IsFaultless told → DecidesEdit stop told status
edit_decided host stop told status (Done output, e, (done, w)) faultless = record {
  long = λ reads input known long. absurd (body_or_long stop told.before.input told.after.input done.sent.0 input reads known done.sent.1 long);
  due = λ within bytes known b. inl e;
  unexpected = λ within bytes known none. absurd (none (done_begins host stop told output bytes done known));
}
edit_decided host stop told status (OutputCut output, e, c) faultless = absurd (faultless.output (behind_rose told.output_before told.output_after c.front c.last c.cut))
edit_decided host stop told status (refused_ending front fault, e, (stops, w)) faultless = record {
  long = λ reads input known long.
      by_fault host stop told status 8 fault e stops.0 faultless (λ link linked s. sent_long host stop told status link fault input e s faultless reads known long);
  due = λ within bytes known b.
      by_fault host stop told status 0 fault e stops.0 faultless (λ link linked s. sent_due host stop told status link fault bytes e linked s faultless within known b);
  unexpected = λ within bytes known none.
      by_fault host stop told status 7 fault e stops.0 faultless (λ link linked s. sent_unexpected host stop told status link fault e linked s faultless within);
}
edit_decided host stop told status (LineCut front fault, e, (stops, w)) faultless = absurd (faultless.output (behind_rose told.output_before told.output_after front (fault_line edit_line fault) w))
