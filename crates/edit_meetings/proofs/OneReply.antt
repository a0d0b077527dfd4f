-- The reply on a connection that one request was sent on, whole or in part, however the connection ends: it is the
-- share's, at a length of its history, or the one for an allocation that failed.
use Rattle.std.proofs.Common.{◌≡◌, ◌≤◌, ◌⊎◌, ◌==◌, ℕ, List, [], ◌∷◌, ◌++◌, length, Bool, true, false, cond, is_some, Some, None, refl, sym, ap, ◌∙◌, subst, inl, inr, append_assoc, append-nil, arith}
use Rattle.std.specs.List.{AllByRecursion, AllZip, flat_map}
use Rattle.std.specs.Prelude.{MatchBool}
use Rattle.item_model.specs.declared.changes.Entry.{Entry}
use Rattle.http_heads.specs.declared.refusal.HeadError.{HeadError}
use Rattle.http_heads.specs.Messages.{Message, print_message}
use Rattle.http_front.specs.Asks.{Spells}
use Rattle.http_front.specs.Readings.{IsReading, Joins, Reading, reading}
use Rattle.http_front.proofs.ReadingLaws.{earlier_asks, first_ask, joins_stay, nothing_read, one_reading, refusal_stays}
use Rattle.http_client.specs.Replies.{IsReply, Reply}
use Rattle.http_client.proofs.ReplyLaws.{none_in_nothing}
use Rattle.http_client.proofs.StatusRead.{text_status}
use Rattle.reply_bytes.specs.ReplyBytes.{body_bytes, failure_bytes, form_of, refusal_bytes, reply_bytes}
use Rattle.reply_bytes.proofs.ReasonFacts.{replies_have_reasons}
use Rattle.share_asks.specs.declared.ask.Ask.{Ask}
use Rattle.share_asks.specs.declared.ask.Role.{Role}
use Rattle.share_asks.specs.declared.ask.Want.{Want}
use Rattle.share_asks.specs.declared.form.BodyForm.TheVariants.{NoBody}
use Rattle.share_replies.specs.Replies.{Answer, answer_to}
use Rattle.share_replies.specs.Settings.{Settings}
use Rattle.share_server.specs.declared.report.LinkEnd.{LinkEnd}
use Rattle.share_server.specs.declared.report.LinkEnd.TheVariants.{Closed, Cut, FileFault, LinkFault, Memory, Refused, Spent, Stopped}
use Rattle.share_server.specs.declared.report.Served.{Served}
use Rattle.share_server.specs.Ends.{Breaks, EndsAtEnd, EndsInside, Parts, WantsMemory, all, all_told, in_its_place, refusing, replying, wanting, without_last}
use Rattle.share_server.specs.Replies.{answer_bytes, due, replies, replies_from}
use Rattle.share_server.specs.Served.{AreServed, IsGivenUp, IsReplied, IsServed, answered_on, at_point}
use Rattle.share_server.proofs.Endings.{parts_served}
use Rattle.share_meetings.specs.Links.{ServedLink}
use Rattle.share_meetings.proofs.Answering.{ReadsAs, open_ask}

-- ---- what was sent

-- none of these added an entry
abbrev pub AreQuiet : List Served → Type 0
AreQuiet served = AllByRecursion (λ v. v.added ≡ false) served

-- What may follow the replies of an output: nothing, the reply for an allocation that failed, after which no other
-- request added an entry, or the refusal of bytes that are not a request.
data Tail (role : Role) (input tail : List ℕ) (others : List Served) : Type 0 where
  nothing : tail ≡ [] → Tail role input tail others
  failure : tail ≡ failure_bytes true → AreQuiet others → Tail role input tail others
  refusal : (error : HeadError) (asks : List Ask) (rest : List ℕ) → IsReading role input (reading asks rest (Some error)) → Tail role input tail others

-- The output is a prefix of the replies to some first requests, and of what may follow them.
record Sent (s : Settings) (by limit : ℕ) (role : Role) (h : List Entry) (input output : List ℕ) (reports : List Served) : Type 0 where
  asks : List Ask
  rest : List ℕ
  served : List Served
  others : List Served
  joins : Joins role input asks rest
  are_served : AreServed s by h asks served
  among : reports ≡ served ++ others
  missing : List ℕ
  tail : List ℕ
  whole : output ++ missing ≡ replies s limit h asks served ++ tail
  is_tail : Tail role input tail others

module _ (s : Settings) (by limit : ℕ) (role : Role) (h : List Entry) (input output : List ℕ) (x : ServedLink s by limit role h input output) where
  abbrev IsSent : Type 0
  IsSent = Sent s by limit role h input output x.served

  sent_all : (missing tail : List ℕ) → output ++ missing ≡ replies s limit h x.asks x.served ++ tail → Tail role input tail [] → IsSent
  sent_all missing tail whole is_tail = record {
    asks = x.asks;
    rest = x.rest;
    served = x.served;
    others = [];
    joins = x.joins;
    are_served = x.are_served;
    among = sym (append-nil x.served);
    missing = missing;
    tail = tail;
    whole = whole;
    is_tail = is_tail;
  }

  sent_earlier : (parts : Parts x.asks x.served) (missing tail : List ℕ) → output ++ missing ≡ replies s limit h parts.earlier_asks parts.earlier ++ tail → Tail role input tail (parts.last ∷ []) → IsSent
  sent_earlier parts missing tail whole is_tail =
      let before = earlier_asks role input parts.earlier_asks (parts.ask ∷ []) x.rest (subst (λ (asks : List Ask). Joins role input asks x.rest) parts.asks_are x.joins) in
      record {
        asks = parts.earlier_asks;
        rest = before.0;
        served = parts.earlier;
        others = parts.last ∷ [];
        joins = before.1;
        are_served = (parts_served s by h x.asks x.served parts x.are_served).0;
        among = parts.served_are;
        missing = missing;
        tail = tail;
        whole = whole;
        is_tail = is_tail;
      }

  sent_replies : output ≡ replies s limit h x.asks x.served → IsSent
  sent_replies is = sent_all [] [] (ap (λ (bytes : List ℕ). bytes ++ []) is) (nothing refl)

  sent_wanted : (whole missing : List ℕ) → WantsMemory s limit h x.asks x.served whole → whole ≡ output ++ missing → IsSent
  sent_wanted whole missing (all is) cut = sent_all missing [] (sym cut ∙ is ∙ sym (append-nil (replies s limit h x.asks x.served))) (nothing refl)
  sent_wanted whole missing (all_told is) cut = sent_all missing (failure_bytes true) (sym cut ∙ is) (failure refl tt)
  sent_wanted whole missing (without_last parts is) cut =
      sent_earlier parts missing [] (sym cut ∙ is ∙ sym (append-nil (replies s limit h parts.earlier_asks parts.earlier))) (nothing refl)
  sent_wanted whole missing (in_its_place parts not_added is) cut = sent_earlier parts missing (failure_bytes true) (sym cut ∙ is) (failure refl (not_added, tt))

  sent_broken : Breaks role input s limit h x.asks x.served x.rest output → IsSent
  sent_broken (replying on cut) = sent_all cut.0 [] (sym cut.1 ∙ sym (append-nil (replies s limit h x.asks x.served))) (nothing refl)
  sent_broken (wanting whole on wants cut) = sent_wanted whole cut.0 wants cut.1
  sent_broken (refusing error idles cut) = sent_all cut.0 (refusal_bytes error) (sym cut.1) (refusal error x.asks x.rest idles.reads)

  sent_inside : (end : LinkEnd) → EndsInside role input s limit h x.asks x.served x.rest output end → IsSent
  sent_inside Closed ends = sent_replies ends.1
  sent_inside Stopped ends = sent_replies ends.1
  sent_inside Spent ends = sent_replies ends.1
  sent_inside (Cut at) ends = absurd ends
  sent_inside (Refused status) ends = sent_all [] (refusal_bytes ends.0) (append-nil output ∙ ends.3) (refusal ends.0 x.asks x.rest ends.1.reads)
  sent_inside LinkFault ends = sent_broken ends
  sent_inside FileFault ends = sent_replies ends.1
  sent_inside Memory ends = sent_wanted output [] ends.1 (sym (append-nil output))

  sent_at_end : (end : LinkEnd) → EndsAtEnd role input s limit h x.asks x.served x.rest output end → IsSent
  sent_at_end Closed ends = sent_replies ends.2
  sent_at_end (Cut at) ends = sent_replies ends.3
  sent_at_end (Refused status) ends = absurd ends
  sent_at_end Spent ends = absurd ends
  sent_at_end Stopped ends = absurd ends
  sent_at_end LinkFault ends = absurd ends
  sent_at_end FileFault ends = absurd ends
  sent_at_end Memory ends = absurd ends

  by_end : EndsInside role input s limit h x.asks x.served x.rest output x.end ⊎ EndsAtEnd role input s limit h x.asks x.served x.rest output x.end → IsSent
  by_end (inl ends) = sent_inside x.end ends
  by_end (inr ends) = sent_at_end x.end ends

-- ---- what was read

-- the only report is of the request, and the bytes are the share's reply to it
pub record HasReply (s : Settings) (by : ℕ) (h : List Entry) (reports : List Served) (w : Want) (bytes : List ℕ) (answer : Reply) : Type 0 where
  pub one : Served
  pub only : reports ≡ one ∷ []
  pub within : one.point ≤ length h
  pub how : IsReplied s by (at_point h one) w one
  pub last : Bool
  pub rest : List ℕ
  pub spelled : bytes ≡ reply_bytes how.reply last ++ rest
  pub status : answer.0 ≡ how.reply.status

-- or an allocation failed, and nothing was added
pub record HasFailure (reports : List Served) (bytes : List ℕ) (answer : Reply) : Type 0 where
  pub quiet : AreQuiet reports
  pub last : Bool
  pub rest : List ℕ
  pub spelled : bytes ≡ failure_bytes last ++ rest
  pub status : answer.0 ≡ 500

-- one of these two, whatever follows the message
pub record Answers (s : Settings) (by : ℕ) (h : List Entry) (reports : List Served) (w : Want) (m : Message) (answer : Reply) : Type 0 where
  pub more : List ℕ
  pub is : HasReply s by h reports w (print_message m ++ more) answer ⊎ HasFailure reports (print_message m ++ more) answer

failed : (reports : List Served) (last : Bool) (rest bytes more : List ℕ) (m : Message) (answer : Reply) → AreQuiet reports → IsReply m answer → bytes ≡ print_message m ++ more
    → bytes ≡ failure_bytes last ++ rest → HasFailure reports (print_message m ++ more) answer
failed reports last rest bytes more m answer quiet is split spelled = record {
  quiet = quiet;
  last = last;
  rest = rest;
  spelled = sym split ∙ spelled;
  status = text_status 500 NoBody 0 last [] rest more m answer refl is (sym spelled ∙ split);
}

-- ---- there is one request

pub nothing_joins : (role : Role) (asks : List Ask) (rest : List ℕ) → Joins role [] asks rest → asks ≡ []
nothing_joins role [] rest j = refl
nothing_joins role (a ∷ asks) rest j = by_requests j.requests j.spell j.joined
  where
    by_requests : (ms : List Message) → AllZip (Spells role) ms (a ∷ asks) → [] ≡ flat_map print_message ms ++ rest → a ∷ asks ≡ []
    by_requests [] spell joined = absurd spell
    by_requests (m ∷ ms) spell joined =
        absurd ((nothing_read role).last m (flat_map print_message ms ++ rest) spell.0.1.0 (joined ∙ append_assoc (print_message m) (flat_map print_message ms) rest))

pub none_served : (s : Settings) (by : ℕ) (h : List Entry) (asks : List Ask) (served : List Served) → asks ≡ [] → AreServed s by h asks served → served ≡ []
none_served s by h asks [] none are = refl
none_served s by h asks (v ∷ served) none are = absurd (subst (λ (l : List Ask). AreServed s by h l (v ∷ served)) none are)

-- a text that reads as one request was served at most once
pub served_once : (s : Settings) (by : ℕ) (role : Role) (h : List Entry) (text rest : List ℕ) (w : Want) (asks : List Ask) (served : List Served) → ReadsAs role text w
    → Joins role (text ++ []) asks rest → AreServed s by h asks served → length served ≤ 1
served_once s by role h text rest w [] [] back joins are = omega arith
served_once s by role h text rest w [] (v ∷ served) back joins are = absurd are
served_once s by role h text rest w (a ∷ asks) [] back joins are = omega arith
served_once s by role h text rest w (a ∷ asks) (v ∷ served) back joins are =
    let first = first_ask role text [] (open_ask role w) a asks rest back joins in
    let none : served ≡ [] = none_served s by h asks served (nothing_joins role asks rest first.1) are.1 in
    subst (λ (l : List Served). length (v ∷ l) ≤ 1) (sym none) (omega arith)

-- or not at all
pub served_one : (s : Settings) (by : ℕ) (role : Role) (h : List Entry) (text rest : List ℕ) (w : Want) (asks : List Ask) (served : List Served) → ReadsAs role text w
    → Joins role (text ++ []) asks rest → AreServed s by h asks served → (served ≡ []) ⊎ ((v : Served) × (served ≡ v ∷ []) × IsServed s by h w v)
served_one s by role h text rest w [] [] back joins are = inl refl
served_one s by role h text rest w [] (v ∷ served) back joins are = absurd are
served_one s by role h text rest w (a ∷ asks) [] back joins are = inl refl
served_one s by role h text rest w (a ∷ asks) (v ∷ served) back joins are =
    let first = first_ask role text [] (open_ask role w) a asks rest back joins in
    let none : served ≡ [] = none_served s by h asks served (nothing_joins role asks rest first.1) are.1 in
    inr (v, ap (λ (l : List Served). v ∷ l) none, subst (λ (u : Want). IsServed s by h u v) (ap (λ (x : Ask). x.want) first.0) are.0)

only_one : (reports others : List Served) (v : Served) → length reports ≤ 1 → reports ≡ v ∷ others → reports ≡ v ∷ []
only_one reports [] v few are = are
only_one reports (u ∷ others) v few are = absurd (omega (arith, few, ap (λ (l : List Served). length l) are))

module _ (s : Settings) (by limit : ℕ) (role : Role) (h : List Entry) (input output : List ℕ) (reports : List Served) (text lost : List ℕ) (w : Want) (m : Message) (answer : Reply) (more : List ℕ)
    (few : length reports ≤ 1) (reached : text ≡ input ++ lost) (back : ReadsAs role text w) (is : IsReply m answer) where
  -- the text of a request is not refused
  not_refused : (error : HeadError) (asks : List Ask) (rest : List ℕ) → IsReading role input (reading asks rest (Some error)) → ⊥
  not_refused error asks rest reads =
      let longer = refusal_stays role input lost (reading asks rest (Some error)) error reads refl in
      let same = one_reading role text (reading asks (rest ++ lost) (Some error)) (reading (open_ask role w ∷ []) [] None)
      (subst (λ (bytes : List ℕ). IsReading role bytes (reading asks (rest ++ lost) (Some error))) (sym reached) longer) back in
      let faults : Some error ≡ None = ap (λ (r : Reading). r.fault) same in
      absurd (cc)

  tail_is : (tail : List ℕ) → Tail role input tail reports → tail ≡ print_message m ++ more → HasFailure reports (print_message m ++ more) answer
  tail_is tail (nothing none) split = absurd (none_in_nothing m more is.0 (sym none ∙ split))
  tail_is tail (failure one quiet) split = failed reports true [] tail more m answer quiet is split (one ∙ sym (append-nil (failure_bytes true)))
  tail_is tail (refusal error asks rest reads) split = absurd (not_refused error asks rest reads)

  served_is : (v : Served) (last : Bool) (bytes rest : List ℕ) → reports ≡ v ∷ [] → IsServed s by h w v → bytes ≡ print_message m ++ more
      → bytes ≡ cond (v.status == 500) (failure_bytes last) (answer_bytes (answer_to s (answered_on v.added (at_point h v)) w) last) ++ rest
      → HasReply s by h reports w (print_message m ++ more) answer ⊎ HasFailure reports (print_message m ++ more) answer
  served_is v last bytes rest only is_served split whole = by_status (v.status == 500) is_served.how whole
    where
      by_status : (b : Bool) → MatchBool b (IsGivenUp v) (IsReplied s by (at_point h v) w v)
          → bytes ≡ cond b (failure_bytes last) (answer_bytes (answer_to s (answered_on v.added (at_point h v)) w) last) ++ rest
          → HasReply s by h reports w (print_message m ++ more) answer ⊎ HasFailure reports (print_message m ++ more) answer
      by_status true how whole = inr (failed reports last rest bytes more m answer (subst AreQuiet (sym only) (how.added, tt)) is split whole)
      by_status false how whole =
          let spelled : bytes ≡ reply_bytes how.reply last ++ rest = whole ∙ ap (λ (a : Answer). answer_bytes a last ++ rest) how.replies in
          let told = text_status how.reply.status (form_of how.reply.body) (length (body_bytes how.reply.body)) last (body_bytes how.reply.body) rest more m answer
          (replies_have_reasons s (answered_on v.added (at_point h v)) w how.reply how.replies) is (sym spelled ∙ split) in
          inl (record { one = v; only = only; within = is_served.within; how = how; last = last; rest = rest; spelled = sym split ∙ spelled; status = told })

  first_is : (asks : List Ask) (served others : List Served) (rest tail : List ℕ) → Joins role (text ++ []) asks rest → AreServed s by h asks served → reports ≡ served ++ others
      → replies_from s limit h 1 asks served ++ tail ≡ print_message m ++ more → Tail role input tail others
      → HasReply s by h reports w (print_message m ++ more) answer ⊎ HasFailure reports (print_message m ++ more) answer
  first_is [] [] others rest tail joins are among split is_tail =
      inr (tail_is tail (subst (λ (l : List Served). Tail role input tail l) (sym among) is_tail) split)
  first_is [] (v ∷ served) others rest tail joins are among split is_tail = absurd are
  first_is (ask ∷ asks) [] others rest tail joins are among split is_tail = absurd are
  first_is (ask ∷ asks) (v ∷ served) others rest tail joins are among split is_tail =
      let first = first_ask role text [] (open_ask role w) ask asks rest back joins in
      let wants : ask.want ≡ w = ap (λ (a : Ask). a.want) first.0 in
      let last : Bool = is_some (due limit 1 ask (at_point h v)) in
      let bytes : List ℕ = cond (v.status == 500) (failure_bytes last) (answer_bytes (answer_to s (answered_on v.added (at_point h v)) ask.want) last) in
      served_is v last (replies_from s limit h 1 (ask ∷ asks) (v ∷ served) ++ tail) (replies_from s limit h 2 asks served ++ tail)
      (only_one reports (served ++ others) v few among) (subst (λ (u : Want). IsServed s by h u v) wants are.0) split
      (append_assoc bytes (replies_from s limit h 2 asks served) tail
      ∙ ap (λ (u : Want). cond (v.status == 500) (failure_bytes last) (answer_bytes (answer_to s (answered_on v.added (at_point h v)) u) last) ++ (replies_from s limit h 2 asks served ++ tail)) wants)

-- the reply that was read is the share's to the request, or that of an allocation that failed
pub one_reply_is : (s : Settings) (by limit : ℕ) (role : Role) (h : List Entry) (input output : List ℕ) (x : ServedLink s by limit role h input output)
    (text lost : List ℕ) (w : Want) (m : Message) (answer : Reply) (more : List ℕ) → text ≡ input ++ lost → ReadsAs role text w → IsReply m answer → output ≡ print_message m ++ more
    → Answers s by h x.served w m answer
one_reply_is s by limit role h input output x text lost w m answer more reached back is read =
    let sent = by_end s by limit role h input output x x.how in
    let longer : Joins role (text ++ []) sent.asks (sent.rest ++ lost) =
    subst (λ (bytes : List ℕ). Joins role bytes sent.asks (sent.rest ++ lost)) (sym reached ∙ sym (append-nil text)) (joins_stay role input lost sent.asks sent.rest sent.joins) in
    let split : replies s limit h sent.asks sent.served ++ sent.tail ≡ print_message m ++ (more ++ sent.missing) =
    sym sent.whole ∙ ap (λ (bytes : List ℕ). bytes ++ sent.missing) read ∙ append_assoc (print_message m) more sent.missing in
    let all_longer : Joins role (text ++ []) x.asks (x.rest ++ lost) =
    subst (λ (bytes : List ℕ). Joins role bytes x.asks (x.rest ++ lost)) (sym reached ∙ sym (append-nil text)) (joins_stay role input lost x.asks x.rest x.joins) in
    let few = served_once s by role h text (x.rest ++ lost) w x.asks x.served back all_longer x.are_served in
    record {
      more = more ++ sent.missing;
      is = first_is s by limit role h input output x.served text lost w m answer (more ++ sent.missing) few reached back is sent.asks sent.served sent.others (sent.rest ++ lost) sent.tail
          longer sent.are_served sent.among split sent.is_tail;
    }
