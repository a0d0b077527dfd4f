-- The connection that a run of `edit` made, and the one exchange over it.
use Rattle.std.proofs.Common.{◌≡◌, ℕ, Bool, List, [], ◌∷◌, ◌++◌, Option, Some, None, sym, ap, ◌∙◌, subst, append_assoc, append-nil}
use Rattle.std.proofs.lemmas.List.{append_cancel_left}
use Rattle.std.specs.Io.KnownBytes.{Appends}
use Rattle.item_model.specs.declared.changes.Entry.{Entry}
use Rattle.outside_net.specs.Places.{Returned, returned}
use Rattle.outside_net.specs.Told.{BeginsEmpty, GrowsByTold}
use Rattle.http_heads.specs.Messages.{Message, print_message}
use Rattle.share_asks.specs.declared.ask.Want.{Want}
use Rattle.share_replies.specs.Settings.{Settings}
use Rattle.share_server.specs.declared.report.LinkReport.{LinkReport}
use Rattle.command_core.specs.Seen.{NetSeen}
use Rattle.mirror_client.specs.declared.pushing.Pushed.{Pushed}
use Rattle.mirror_client.specs.Pushes.{push_text}
use Rattle.link_commands.proofs.FirstReply.{owed_split}
use Rattle.share_meetings.proofs.Answering.{ReadsAs}
use Rattle.link_commands.specs.EditShare.{HasPushed}
use Rattle.link_commands.specs.Linked.{HasLinked, LinkSeen, start_of}
use Rattle.link_commands.proofs.LinkedFacts.{left_is, owed_is}
use Rattle.share_meetings.specs.Meetings.{IsMade}
use Rattle.share_meetings.specs.Shares.{IsOfShare}
use Rattle.edit_meetings.proofs.OneReply.{Answers, one_reply_is}

-- ---- the connection

-- what is known of the connection that was made
pub record IsLinkOf (link : LinkSeen) (sent owed : List ℕ) : Type 0 where
  pub begun : link.begun ≡ Some []
  pub taken : link.taken ≡ Some sent
  pub left : link.left ≡ Some owed

begun_empty : (before : Option (List Returned)) (begun : Option (List ℕ)) (closed : List Returned) → before ≡ Some closed → BeginsEmpty before begun → begun ≡ Some []
begun_empty before begun closed is h = subst (λ (b : Option (List Returned)). BeginsEmpty b begun) is h

bytes_of : List ℕ → List Returned → List ℕ
bytes_of other [] = other
bytes_of other (r ∷ rs) = r.0

only_one : (bytes sent : List ℕ) (b faulted : Bool) (others : List Returned) → (bytes, b) ∷ [] ≡ others ++ (sent, faulted) ∷ [] → bytes ≡ sent
unfolding bytes_of
only_one bytes sent b faulted [] e = ap (bytes_of bytes) e
only_one bytes sent b faulted (r ∷ []) e = absurd (cc)
only_one bytes sent b faulted (r ∷ q ∷ others) e = absurd (cc)

last_sent : (closed others : List Returned) (bytes sent : List ℕ) (b faulted : Bool) → closed ++ (others ++ (sent, faulted) ∷ []) ≡ closed ++ (bytes, b) ∷ [] → bytes ≡ sent
last_sent closed others bytes sent b faulted e = only_one bytes sent b faulted others (sym (append_cancel_left closed (others ++ (sent, faulted) ∷ []) ((bytes, b) ∷ []) e))

sent_is : (before after : Option (List Returned)) (taken : Option (List ℕ)) (faults : ℕ) (closed others : List Returned) (sent : List ℕ) (faulted : Bool)
    → before ≡ Some closed → after ≡ Some (closed ++ (others ++ (sent, faulted) ∷ [])) → GrowsByTold before after (returned taken faults) → taken ≡ Some sent
sent_is before after None faults closed others sent faulted first last grows = absurd (cc)
sent_is before after (Some bytes) faults closed others sent faulted first last grows =
    let both = subst (λ (b : Option (List Returned)). GrowsByTold b (Some (closed ++ (others ++ (sent, faulted) ∷ []))) (returned (Some bytes) faults)) first
    (subst (λ (a : Option (List Returned)). GrowsByTold before a (returned (Some bytes) faults)) last grows) in
    ap (λ (x : List ℕ). Some x) (last_sent closed others bytes sent _ faulted both)

pub link_of : (host : List ℕ) (before after : NetSeen) (link : LinkSeen) (sent owed : List ℕ) → HasLinked host before after link → IsMade before after sent owed → IsLinkOf link sent owed
link_of host before after link sent owed linked made = record {
  begun = begun_empty before.written link.begun made.closed made.closed_are linked.begun;
  taken = sent_is before.written after.written link.taken link.faults made.closed made.others sent made.faulted made.closed_are made.written linked.written;
  left = left_is before.next_input link.left owed made.next linked.input;
}

-- ---- the exchange

pub all_written : (before now : Option (List ℕ)) (bytes sent : List ℕ) → before ≡ Some [] → now ≡ Some sent → Appends before now bytes → sent ≡ bytes
all_written before now bytes sent nothing is appended =
    subst (λ (o : Option (List ℕ)). Appends (Some []) o bytes) is (subst (λ (o : Option (List ℕ)). Appends o now bytes) nothing appended)

-- the reply that was read to what was pushed
pub answer_of : (s : Settings) (h : List Entry) (report : LinkReport) (input output host : List ℕ) (body : Option (List ℕ)) (link : LinkSeen) (sent owed lost dropped : List ℕ) (w : Want) (made : Pushed)
    → (o : IsOfShare s h report input output) → IsLinkOf link sent owed → sent ≡ input ++ lost → output ≡ owed ++ dropped → ReadsAs o.role (push_text body host) w
    → (x : HasPushed host body link made) → Answers s report.number o.seen o.link.served w x.exchanged.message x.answer
answer_of s h report input output host body link sent owed lost dropped w made o known reached answered back x =
    let m : Message = x.exchanged.message in
    let text : List ℕ = push_text body host in
    let written : sent ≡ text ++ [] = all_written link.begun link.taken (text ++ []) sent known.begun known.taken
    (subst (λ (t : Option (List ℕ)). Appends link.begun t (text ++ [])) x.written x.exchanged.went.written) in
    let split = owed_split (start_of link).owed x.there.owed owed (print_message m ++ []) (owed_is link owed known.left) x.exchanged.went.read in
    let first : output ≡ print_message m ++ (split.0 ++ dropped) =
    answered ∙ ap (λ (b : List ℕ). b ++ dropped) (split.1 ∙ ap (λ (b : List ℕ). b ++ split.0) (append-nil (print_message m))) ∙ append_assoc (print_message m) split.0 dropped in
    one_reply_is s report.number o.limit o.role o.seen input output o.link text lost w m x.answer (split.0 ++ dropped) (sym (append-nil text) ∙ sym written ∙ reached) back
    x.exchanged.went.answered.0 first
