-- One request that a client wrote and one reply that it read: the reply is the share's, at a length of its history.
use Rattle.std.proofs.Common.{◌≡◌, ◌≤◌, ◌⊎◌, ◌+◌, ◌==◌, ℕ, List, [], ◌∷◌, ◌++◌, take, length, Bool, true, false, cond, is_some, Some, None, refl, sym, ap, ◌∙◌, subst, inl, inr, append_assoc, length-append, arith}
use Rattle.std.specs.List.{slice_get}
use Rattle.std.specs.Prelude.{MatchBool}
use Rattle.item_model.specs.declared.changes.Entry.{Entry}
use Rattle.http_heads.specs.Messages.{Message, print_message}
use Rattle.http_front.specs.Readings.{IsReading, Joins, reading}
use Rattle.http_front.proofs.ReadingLaws.{first_ask}
use Rattle.http_client.specs.Replies.{IsReply, Reply}
use Rattle.http_client.specs.Requests.{request_text}
use Rattle.http_client.proofs.StatusRead.{text_status}
use Rattle.reply_bytes.specs.ReplyBytes.{body_bytes, failure_bytes, form_of, reply_bytes}
use Rattle.reply_bytes.proofs.ReasonFacts.{replies_have_reasons}
use Rattle.share_asks.specs.declared.ask.Ask.{Ask}
use Rattle.share_asks.specs.declared.ask.Role.{Role}
use Rattle.share_asks.specs.declared.ask.Want.{Want}
use Rattle.share_asks.specs.declared.form.BodyForm.TheVariants.{NoBody}
use Rattle.share_replies.specs.Replies.{Answer, answer_to}
use Rattle.share_replies.specs.Settings.{Settings}
use Rattle.share_server.specs.declared.report.Served.{Served}
use Rattle.share_server.specs.Passes.{Rises}
use Rattle.share_server.specs.Replies.{answer_bytes, due, replies_from}
use Rattle.share_server.specs.Served.{AreServed, IsGivenUp, IsReplied, IsServed, answered_on, at_point}
use Rattle.share_meetings.specs.ServedRuns.{Serves, due_status}
use Rattle.share_history.specs.Whole.{IsWhole}
use Rattle.link_commands.proofs.FirstReply.{Begins, answer_is}
use Rattle.share_meetings.specs.Links.{IsReport}
use Rattle.share_meetings.proofs.Granted.{Goes, goes_so}
use Rattle.share_meetings.proofs.Prefixes.{IsPrefix, answered_between, got_behind, prefix_both, prefix_taken, prefix_whole}
use Rattle.share_meetings.proofs.Sends.{AreAmong, IsComplete, IsGranted, Left}

-- a request of a connection that stays open
abbrev pub open_ask : Role → Want → Ask
open_ask role w = record { role = role; close = false; want = w }

-- a server of the role reads the text as the request and nothing else
abbrev pub ReadsAs : Role → List ℕ → Want → Type 0
ReadsAs role text w = IsReading role text (reading (open_ask role w ∷ []) [] None)

-- so it reads the text of the request to a host
abbrev pub ReadsBack : Role → List ℕ → Want → Type 0
ReadsBack role host w = ReadsAs role (request_text w host) w

-- what a client reads if a share answers on a history
abbrev pub Says : Settings → Want → (List Entry → Reply) → Type 0
Says s w says = (p : List Entry) (bytes rest : List ℕ) → IsWhole p → Serves s w p bytes rest → Begins bytes rest (says p)

-- One of the reports is of the request. It was granted at a length between that of the request before and its own, and
-- this is left.
pub record Answered (s : Settings) (by limit : ℕ) (role : Role) (h : List Entry) (reports : List Served) (all : Bool) (low n : ℕ) (w : Want) (says : List Entry → Reply) (answer : Reply) (input more : List ℕ)
    : Type 0 where
  pub point : List Entry
  pub whole : IsWhole point
  pub one : Served
  pub is_report : IsReport one reports
  -- the number of the request, counted from 0
  pub number : ℕ
  pub is_there : slice_get reports number ≡ Some one
  pub count : number + 1 ≡ n
  pub within : one.point ≤ length h
  pub goes : Goes by w point (at_point h one) one.added
  pub above : IsPrefix (take low h) point
  pub below : IsPrefix point (at_point h one)
  pub is : answer ≡ says point
  pub left : Left s by limit role h reports all one.point (n + 1) input more

not_failed : (answer : Reply) → answer.0 ≡ 500 → IsGranted answer → ⊥
not_failed answer failed (inl e) = omega (arith, failed, e)
not_failed answer failed (inr e) = omega (arith, failed, e)

-- a success for a request that was served is the share's reply
served_so : (s : Settings) (by : ℕ) (h : List Entry) (w : Want) (v : Served) (last : Bool) (bytes rest more : List ℕ) (m : Message) (answer : Reply) → IsServed s by h w v
    → IsReply m answer → bytes ≡ print_message m ++ more → IsGranted answer → answer.0 ≡ due_status w
    → bytes ≡ cond (v.status == 500) (failure_bytes last) (answer_bytes (answer_to s (answered_on v.added (at_point h v)) w) last) ++ rest
    → Serves s w (answered_on v.added (at_point h v)) bytes rest × Goes by w (answered_on v.added (at_point h v)) (at_point h v) v.added
served_so s by h w v last bytes rest more m answer is_served is split granted status whole = by_status (v.status == 500) is_served.how whole
  where
    p : List Entry
    p = at_point h v

    by_status : (b : Bool) → MatchBool b (IsGivenUp v) (IsReplied s by (at_point h v) w v)
        → bytes ≡ cond b (failure_bytes last) (answer_bytes (answer_to s (answered_on v.added (at_point h v)) w) last) ++ rest
        → Serves s w (answered_on v.added (at_point h v)) bytes rest × Goes by w (answered_on v.added (at_point h v)) (at_point h v) v.added
    by_status true how whole = absurd (not_failed answer (text_status 500 NoBody 0 last [] rest more m answer refl is (sym whole ∙ split)) granted)
    by_status false how whole =
        let spelled : bytes ≡ reply_bytes how.reply last ++ rest = whole ∙ ap (λ (a : Answer). answer_bytes a last ++ rest) how.replies in
        let told = text_status how.reply.status (form_of how.reply.body) (length (body_bytes how.reply.body)) last (body_bytes how.reply.body) rest more m answer
        (replies_have_reasons s (answered_on v.added (at_point h v)) w how.reply how.replies) is (sym spelled ∙ split) in (
          record { reply = how.reply; last = last; answers = how.replies; succeeds = sym told ∙ status; spelled = spelled },
          goes_so s by (at_point h v) w v how (subst (λ (n : ℕ). (n ≡ 200) ⊎ (n ≡ 204)) told granted),
        )

-- a success that a client read for a request that reads back
pub answered : (s : Settings) (by limit : ℕ) (role : Role) (h : List Entry) (reports : List Served) (all : Bool) (low n : ℕ) (text : List ℕ) (w : Want) (says : List Entry → Reply) (m : Message) (answer : Reply)
    (input bytes more : List ℕ) → IsWhole h → ReadsAs role text w → Says s w says → Left s by limit role h reports all low n (text ++ input) bytes
    → IsReply m answer → bytes ≡ print_message m ++ more → IsGranted answer → answer.0 ≡ due_status w → Answered s by limit role h reports all low n w says answer input more
answered s by limit role h reports all low n text w says m answer input bytes more whole back tells x is split granted status =
    by_first x.asks x.served x.joins x.are_served x.rises x.among x.there x.whole x.complete
  where
    behind : (ask : Ask) (asks : List Ask) (v : Served) (served : List Served) → ask ≡ open_ask role w → Joins role input asks x.rest → AreServed s by h (ask ∷ asks) (v ∷ served)
        → Rises low (v ∷ served) (length h) → AreAmong (v ∷ served) reports → reports ≡ x.front ++ ((v ∷ served) ++ x.others) → bytes ≡ replies_from s limit h n (ask ∷ asks) (v ∷ served) ++ x.tail
        → (all ≡ true → IsComplete x.rest x.tail (v ∷ served)) → Answered s by limit role h reports all low n w says answer input more
    behind ask asks v served same joins are rises among there is_all complete =
        let count = x.count in
        let wants : ask.want ≡ w = ap (λ (a : Ask). a.want) same in
        let last : Bool = is_some (due limit n ask (at_point h v)) in
        let first : List ℕ = cond (v.status == 500) (failure_bytes last) (answer_bytes (answer_to s (answered_on v.added (at_point h v)) ask.want) last) in
        let rest : List ℕ = replies_from s limit h (n + 1) asks served ++ x.tail in
        let serves = subst (λ (u : Want). Serves s u (answered_on v.added (at_point h v)) bytes rest × Goes by u (answered_on v.added (at_point h v)) (at_point h v) v.added) wants
        (served_so s by h ask.want v last bytes rest more m answer are.0 is split granted (status ∙ ap due_status (sym wants))
        (is_all ∙ append_assoc first (replies_from s limit h (n + 1) asks served) x.tail)) in
        let between = answered_between h low v.point v.added rises.0 are.0.within in
        let point_whole = prefix_whole (answered_on v.added (at_point h v)) h
        (prefix_both (answered_on v.added (at_point h v)) (take v.point h) h between.1 (prefix_taken v.point h)) whole in
        let told = answer_is m answer (says (answered_on v.added (at_point h v))) bytes more rest is split (tells (answered_on v.added (at_point h v)) bytes rest point_whole serves.0) in
        record {
          point = answered_on v.added (at_point h v);
          whole = point_whole;
          one = v;
          is_report = among.0;
          number = length x.front;
          is_there = subst (λ (all : List Served). slice_get all (length x.front) ≡ Some v) (sym there) (got_behind x.front v (served ++ x.others));
          count = count;
          within = are.0.within;
          goes = serves.1;
          above = between.0;
          below = between.1;
          is = told.0;
          left = record {
            asks = asks;
            rest = x.rest;
            served = served;
            tail = x.tail;
            joins = joins;
            are_served = are.1;
            rises = rises.1;
            among = among.1;
            front = x.front ++ v ∷ [];
            others = x.others;
            there = there ∙ sym (append_assoc x.front (v ∷ []) (served ++ x.others));
            count = omega (arith, count, length-append x.front (v ∷ []));
            whole = told.1;
            nothing = x.nothing;
            complete = λ e. let c = complete e in (c.0, c.1, c.2.1);
          };
        }

    by_first : (asks : List Ask) (served : List Served) → Joins role (text ++ input) asks x.rest → AreServed s by h asks served → Rises low served (length h) → AreAmong served reports
        → reports ≡ x.front ++ (served ++ x.others) → bytes ≡ replies_from s limit h n asks served ++ x.tail → (all ≡ true → IsComplete x.rest x.tail served) → Answered s by limit role h reports all low n w says answer input more
    by_first [] [] joins are rises among there is_all complete = absurd (x.nothing m answer more is (sym is_all ∙ split) granted)
    by_first [] (v ∷ served) joins are rises among there is_all complete = absurd are
    by_first (ask ∷ asks) [] joins are rises among there is_all complete = absurd are
    by_first (ask ∷ asks) (v ∷ served) joins are rises among there is_all complete =
        let first = first_ask role text input (open_ask role w) ask asks x.rest back joins in
        behind ask asks v served first.0 first.1 are rises among there is_all complete
