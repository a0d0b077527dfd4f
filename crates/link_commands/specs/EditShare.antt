-- The command `edit`: sends the bytes of the input, or a stop, to the share at an address, and writes what the share
-- made of it.
use Rattle.std.specs.Prelude.{◌≡◌, ◌≢◌, ◌<◌, ◌≤◌, ◌⊎◌, ◌++◌, ◌∷◌, [], ℕ, List, Bool, true, false, length, nat_le, Option, None, Some, Result, Ok, Err, codes, decimal, IfSome, if◌then◌else◌}
use Rattle.std.specs.Io.KnownBytes.{Consumes, IsAtEnd}
use Rattle.outside_net.specs.Told.{AppendsPrefix}
use Rattle.command_core.specs.declared.fault.Fault.{Fault}
use Rattle.command_core.specs.declared.fault.Fault.TheVariants.{Own, Read, Memory as want}
use Rattle.command_core.specs.Causes.{HasReadOn, IsReadFault}
use Rattle.command_core.specs.ReadRecords.{records_limit}
use Rattle.command_core.specs.Seen.{InputSeen, Seen, IsUnread}
use Rattle.http_client.specs.Replies.{Reply}
use Rattle.mirror_client.specs.declared.pushing.Pushed.{Pushed}
use Rattle.mirror_client.specs.declared.pushing.Pushed.TheVariants as pushed
use Rattle.mirror_client.specs.declared.refusal.FollowError.{FollowError}
use Rattle.mirror_client.specs.declared.refusal.FollowError.TheVariants.{Refused as refused, BadReply, Ended, Listing, Codes, LinkFault, Memory}
use Rattle.mirror_client.specs.Exchanges.{Exchanged}
use Rattle.mirror_client.specs.Points.{Point}
use Rattle.mirror_client.specs.Pushes.{IsPushed, UnexpectedPush, push_text}
use Rattle.mirror_client.specs.Stopping.{CountsFault, Stops}
use Rattle.link_commands.specs.declared.edit.EditFault.{EditFault}
use Rattle.link_commands.specs.declared.edit.EditFault.TheVariants.{TooLong, Unreached, Refused, Link}
use Rattle.link_commands.specs.Linked.{HasLinked, IsUnreached, IsUntouched, LinkSeen, start_of}
use Rattle.link_commands.specs.Links.{link_line, link_status}
use Rattle.link_commands.specs.Meanings.{LinkMeaning}
use Rattle.link_commands.specs.Promises.{EditPromises}

-- the text of a share's refusal is shown up to this length
abbrev pub refusal_text_limit : ℕ
refusal_text_limit = 4096

-- ---- what is sent

-- the input was read to its end, within the limit
pub record HasReadAll (before after : InputSeen) (bytes : List ℕ) : Type 0 where
  pub read : Consumes before.left after.left bytes
  pub end : IsAtEnd after.left
  pub within : length bytes ≤ records_limit
  pub faultless : after.faults ≡ before.faults

-- for a stop nothing is read, and no body is sent
abbrev pub HasBody : (stop : Bool) → InputSeen → InputSeen → Option (List ℕ) → Type 0
HasBody true before after None = IsUnread before after
HasBody true before after (Some bytes) = ⊥
HasBody false before after None = ⊥
HasBody false before after (Some bytes) = HasReadAll before after bytes

-- bytes of the input after which it reads further
abbrev pub EditReadsOn : (stop : Bool) → List ℕ → Type 0
EditReadsOn true bytes = ⊥
EditReadsOn false bytes = length bytes ≤ records_limit

-- nothing was sent over the connection
pub record IsUnsent (link : LinkSeen) : Type 0 where
  pub unsent : link.taken ≡ link.begun
  pub faultless : link.faults ≡ 0

-- ---- what came of it

-- it was sent, and the reply says what the share made of it
pub record HasPushed (host : List ℕ) (body : Option (List ℕ)) (link : LinkSeen) (made : Pushed) : Type 0 where
  pub answer : Reply
  pub there : Point
  pub exchanged : Exchanged (push_text body host) (start_of link) there answer
  pub written : there.taken ≡ link.taken
  pub is : IsPushed body answer made
  pub faultless : link.faults ≡ 0

-- it was sent, perhaps in part, and the exchange stopped with `e`
pub record StopsPush (host : List ℕ) (body : Option (List ℕ)) (link : LinkSeen) (e : FollowError) : Type 0 where
  pub stops : Stops (push_text body host) (UnexpectedPush body) (start_of link) link.taken e
  pub count : CountsFault 0 link.faults e

abbrev pub HasSent : List ℕ → (stop : Bool) → InputSeen → InputSeen → LinkSeen → Pushed → Type 0
HasSent host stop before after link made = (body : Option (List ℕ)) × HasBody stop before after body × HasPushed host body link made

abbrev pub StopsPushing : List ℕ → (stop : Bool) → InputSeen → InputSeen → LinkSeen → FollowError → Type 0
StopsPushing host stop before after link e = (body : Option (List ℕ)) × HasBody stop before after body × StopsPush host body link e

-- nothing was sent, and the input was perhaps not read to its end; or a prefix of this run's own request was sent: of
-- the stop, or of the edit with the bytes that were read
abbrev pub IsSentInPart : List ℕ → (stop : Bool) → InputSeen → InputSeen → LinkSeen → Type 0
IsSentInPart host stop before after link =
    (HasReadOn (EditReadsOn stop) before after × IsUnsent link)
    ⊎ ((body : Option (List ℕ)) × HasBody stop before after body × AppendsPrefix link.begun link.taken (push_text body host))

abbrev pub number_line : List ℕ → ℕ → List ℕ
number_line words n = words ++ (decimal n ++ 10 ∷ [])

-- the line that is written of it
abbrev pub push_line : Pushed → Result (List ℕ) EditFault
push_line (pushed.Revision n) = Ok (number_line (codes "revision ") n)
push_line pushed.Unchanged = Ok (codes "unchanged" ++ 10 ∷ [])
push_line pushed.Stopped = Ok (codes "stopped" ++ 10 ∷ [])
push_line (pushed.Refused status text) = Err (Refused status text)

-- ---- errors

-- a text that is too long is not shown
abbrev pub shown_text : List ℕ → List ℕ
shown_text text = if nat_le (length text) refusal_text_limit then text else []

abbrev pub edit_line : EditFault → List ℕ
edit_line TooLong = codes "limit: input" ++ 10 ∷ []
edit_line Unreached = codes "network failed" ++ 10 ∷ []
edit_line (Refused status text) = number_line (codes "peer: refused ") status ++ shown_text text
edit_line (Link error) = link_line error

abbrev pub edit_status : EditFault → ℕ
edit_status TooLong = 8
edit_status Unreached = 6
edit_status (Refused status text) = 7
edit_status (Link error) = link_status error

-- the input has more bytes than `edit` sends
pub record IsTooLong (stop : Bool) (before after : InputSeen) : Type 0 where
  pub reads : stop ≡ false
  pub long : IfSome before.left (λ input. records_limit < length input)
  pub faultless : after.faults ≡ before.faults
  pub read_on : HasReadOn (EditReadsOn stop) before after

-- why it stopped once a connection was made
abbrev pub StopsSending : List ℕ → (stop : Bool) → InputSeen → InputSeen → LinkSeen → Fault EditFault → Type 0
StopsSending host stop before after link (Own TooLong) = IsTooLong stop before after × IsUnsent link
StopsSending host stop before after link (Own Unreached) = ⊥
StopsSending host stop before after link (Own (Refused status text)) = HasSent host stop before after link (pushed.Refused status text)
StopsSending host stop before after link (Own (Link error)) = (error ≢ Memory) × StopsPushing host stop before after link error
StopsSending host stop before after link Read = (stop ≡ false) × IsReadFault (EditReadsOn stop) before after × IsUnsent link
StopsSending host stop before after link want = IsSentInPart host stop before after link

-- no connection was made; if an allocation fails for the line of that, the line of out of memory is written
pub record StopsUnlinked (host : List ℕ) (before after : Seen) (fault : Fault EditFault) : Type 0 where
  pub unread : IsUnread before.input after.input
  pub unreached : IsUnreached host before.around.net after.around.net
  pub is : (fault ≡ Own Unreached) ⊎ (fault ≡ want)

pub record StopsLinked (host : List ℕ) (stop : Bool) (before after : Seen) (fault : Fault EditFault) : Type 0 where
  pub link : LinkSeen
  pub linked : HasLinked host before.around.net after.around.net link
  pub stops : StopsSending host stop before.input after.input link fault

-- an allocation may fail before anything is done
abbrev pub StopsEdit : List ℕ → (stop : Bool) → Seen → Seen → Fault EditFault → Type 0
StopsEdit host stop before after fault =
    (IsUntouched before after × (fault ≡ want)) ⊎ StopsUnlinked host before after fault ⊎ StopsLinked host stop before after fault

-- it was sent, and the line of the result was written
pub record IsEditDone (host : List ℕ) (stop : Bool) (before after : Seen) (output : List ℕ) : Type 0 where
  pub link : LinkSeen
  pub linked : HasLinked host before.around.net after.around.net link
  pub made : Pushed
  pub sent : HasSent host stop before.input after.input link made
  pub told : push_line made ≡ Ok output

abbrev pub edit_meaning : List ℕ → (stop : Bool) → LinkMeaning
edit_meaning host stop = record {
  fault = EditFault;
  line = edit_line;
  status = edit_status;
  is_done = IsEditDone host stop;
  is_begun = λ before after front last. IsEditDone host stop before after last × (front ≡ []);
  stops = λ before after fault front. StopsEdit host stop before after fault × (front ≡ []);
  promises = EditPromises host stop;
}

-- ---- errors of `edit` for those of the functions below

abbrev pub IsPushRefusal : Pushed → Fault EditFault → Type 0
IsPushRefusal made (Own own) = push_line made ≡ Err own
IsPushRefusal made Read = ⊥
IsPushRefusal made want = Unit {0}

abbrev pub push_fault : FollowError → Fault EditFault
push_fault (refused status) = Own (Link (refused status))
push_fault (BadReply at) = Own (Link (BadReply at))
push_fault (Ended at) = Own (Link (Ended at))
push_fault (Listing error) = Own (Link (Listing error))
push_fault (Codes error) = Own (Link (Codes error))
push_fault LinkFault = Own (Link LinkFault)
push_fault Memory = want
