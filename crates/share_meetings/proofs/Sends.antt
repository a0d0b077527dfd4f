-- What a server still sends on a connection, by what it still has to read there. However the connection ends, its
-- output is a prefix of the replies to the first requests, followed by bytes that grant nothing: a failure, a
-- refusal, or nothing.
use Rattle.std.proofs.Common.{◌≡◌, ◌≢◌, ◌⊎◌, ◌+◌, ℕ, List, [], ◌∷◌, ◌++◌, length, Bool, true, false, refl, sym, ap, ◌∙◌, subst, inl, inr, append-nil, arith}
use Rattle.std.specs.List.{AllByRecursion}
use Rattle.std.specs.Prelude.{⊤}
use Rattle.item_model.specs.declared.changes.Entry.{Entry}
use Rattle.http_heads.specs.declared.refusal.HeadError.{HeadError}
use Rattle.http_heads.specs.declared.refusal.HeadError.TheVariants.{BodyTooLarge, Head, HeadTooLarge, Length, Memory as NoMemory}
use Rattle.http_heads.specs.Messages.{Message, print_message}
use Rattle.http_front.proofs.ReadingLaws.{earlier_asks}
use Rattle.http_front.specs.Readings.{Joins}
use Rattle.http_front.specs.ReplyHeads.{HasReason, reply_head_text}
use Rattle.http_client.proofs.ReplyLaws.{none_in_nothing}
use Rattle.http_client.proofs.StatusRead.{text_status}
use Rattle.http_client.specs.Replies.{IsReply, Reply}
use Rattle.reply_bytes.specs.ReplyBytes.{failure_bytes, refusal_bytes}
use Rattle.share_asks.specs.declared.ask.Ask.{Ask}
use Rattle.share_asks.specs.declared.ask.Role.{Role}
use Rattle.share_asks.specs.declared.form.BodyForm.TheVariants.{NoBody}
use Rattle.share_replies.specs.Settings.{Settings}
use Rattle.share_server.specs.declared.report.LinkEnd.{LinkEnd}
use Rattle.share_server.specs.declared.report.LinkEnd.TheVariants.{Closed, Cut, FileFault, LinkFault, Memory, Refused, Spent, Stopped}
use Rattle.share_server.specs.declared.report.Served.{Served}
use Rattle.share_server.specs.Ends.{Breaks, EndsAtEnd, EndsInside, Parts, WantsMemory, all, all_told, in_its_place, refusing, replying, wanting, without_last}
use Rattle.share_server.specs.Passes.{Rises}
use Rattle.share_server.specs.Replies.{replies, replies_from}
use Rattle.share_server.specs.Served.{AreServed}
use Rattle.share_server.proofs.Endings.{parts_served}
use Rattle.share_meetings.specs.Links.{AnsweredAll, IsReport, IsSuccess, ServedLink}

-- ---- bytes that grant nothing

abbrev pub IsGranted : Reply → Type 0
IsGranted answer = (answer.0 ≡ 200) ⊎ (answer.0 ≡ 204)

-- if they begin with a reply, it is not a success
abbrev pub GrantsNothing : List ℕ → Type 0
GrantsNothing bytes = (m : Message) (answer : Reply) (more : List ℕ) → IsReply m answer → bytes ≡ print_message m ++ more → IsGranted answer → ⊥

nothing_grants_nothing : GrantsNothing []
nothing_grants_nothing m answer more is split granted = none_in_nothing m more is.0 split

head_grants_nothing : (status : ℕ) (last : Bool) → HasReason status → status ≢ 200 → status ≢ 204 → GrantsNothing (reply_head_text status NoBody 0 last ++ [])
head_grants_nothing status last reason a b m answer more is split granted = by_status granted
  where
    same : answer.0 ≡ status
    same = text_status status NoBody 0 last [] [] more m answer reason is (append-nil (reply_head_text status NoBody 0 last ++ []) ∙ split)

    by_status : IsGranted answer → ⊥
    by_status (inl e) = a (sym same ∙ e)
    by_status (inr e) = b (sym same ∙ e)

failure_grants_nothing : GrantsNothing (failure_bytes true)
failure_grants_nothing = head_grants_nothing 500 true refl (λ e. absurd (omega (arith, e))) (λ e. absurd (omega (arith, e)))

refusal_grants_nothing : (error : HeadError) → GrantsNothing (refusal_bytes error)
refusal_grants_nothing Head = head_grants_nothing 400 true refl (λ e. absurd (omega (arith, e))) (λ e. absurd (omega (arith, e)))
refusal_grants_nothing Length = head_grants_nothing 400 true refl (λ e. absurd (omega (arith, e))) (λ e. absurd (omega (arith, e)))
refusal_grants_nothing BodyTooLarge = head_grants_nothing 413 true refl (λ e. absurd (omega (arith, e))) (λ e. absurd (omega (arith, e)))
refusal_grants_nothing HeadTooLarge = head_grants_nothing 431 true refl (λ e. absurd (omega (arith, e))) (λ e. absurd (omega (arith, e)))
refusal_grants_nothing NoMemory = failure_grants_nothing

-- ---- what is left to read and to send

-- every request was granted, and nothing follows the last one or its reply
abbrev pub IsComplete : (rest tail : List ℕ) → List Served → Type 0
IsComplete rest tail served = (rest ≡ []) × (tail ≡ []) × AllByRecursion IsSuccess served

-- each is one of these reports
abbrev pub AreAmong : List Served → List Served → Type 0
AreAmong [] reports = ⊤
AreAmong (v ∷ served) reports = IsReport v reports × AreAmong served reports

-- Requests of the reports that were served from history length `low`, counted from `n`, and the bytes that answer them.
-- `front` are the reports before theirs. If `all`, there are no others.
pub record Left (s : Settings) (by limit : ℕ) (role : Role) (h : List Entry) (reports : List Served) (all : Bool) (low n : ℕ) (input bytes : List ℕ) : Type 0 where
  pub asks : List Ask
  pub rest : List ℕ
  pub served : List Served
  pub tail : List ℕ
  pub joins : Joins role input asks rest
  pub are_served : AreServed s by h asks served
  pub rises : Rises low served (length h)
  pub among : AreAmong served reports
  pub front : List Served
  pub others : List Served
  pub there : reports ≡ front ++ (served ++ others)
  pub count : length front + 1 ≡ n
  pub whole : bytes ≡ replies_from s limit h n asks served ++ tail
  pub nothing : GrantsNothing tail
  pub complete : all ≡ true → IsComplete rest tail served

-- ---- all ends

rises_before : (low high : ℕ) (served : List Served) (last : Served) → Rises low (served ++ last ∷ []) high → Rises low served high
rises_before low high [] last rises = omega (arith, rises.0, rises.1)
rises_before low high (v ∷ served) last rises = (rises.0, rises_before v.point high served last rises.1)

among_more : (v : Served) (served reports : List Served) → AreAmong served reports → AreAmong served (v ∷ reports)
among_more v [] reports among = tt
among_more v (u ∷ served) reports among = (inr among.0, among_more v served reports among.1)

among_first : (served others : List Served) → AreAmong served (served ++ others)
among_first [] others = tt
among_first (v ∷ served) others = (inl refl, among_more v served (served ++ others) (among_first served others))

among_all : (served : List Served) → AreAmong served served
among_all served = subst (λ (reports : List Served). AreAmong served reports) (append-nil served) (among_first served [])

module _ (s : Settings) (by limit : ℕ) (role : Role) (h : List Entry) (input output : List ℕ) (x : ServedLink s by limit role h input output)
    (low : ℕ) (rises : Rises low x.served (length h)) where
  -- there are bytes that would complete the output
  abbrev Sends : Type 0
  Sends = (missing : List ℕ) × Left s by limit role h x.served false low 1 input (output ++ missing)

  sends_all : (missing tail : List ℕ) → output ++ missing ≡ replies s limit h x.asks x.served ++ tail → GrantsNothing tail → Sends
  sends_all missing tail whole nothing = (
    missing,
    record {
      asks = x.asks;
      rest = x.rest;
      served = x.served;
      tail = tail;
      joins = x.joins;
      are_served = x.are_served;
      rises = rises;
      among = among_all x.served;
      front = [];
      others = [];
      there = sym (append-nil x.served);
      count = refl;
      whole = whole;
      nothing = nothing;
      complete = λ e. absurd (cc e);
    },
  )

  sends_earlier : (parts : Parts x.asks x.served) (missing tail : List ℕ) → output ++ missing ≡ replies s limit h parts.earlier_asks parts.earlier ++ tail → GrantsNothing tail → Sends
  sends_earlier parts missing tail whole nothing =
      let before = earlier_asks role input parts.earlier_asks (parts.ask ∷ []) x.rest (subst (λ (asks : List Ask). Joins role input asks x.rest) parts.asks_are x.joins) in (
        missing,
        record {
          asks = parts.earlier_asks;
          rest = before.0;
          served = parts.earlier;
          tail = tail;
          joins = before.1;
          are_served = (parts_served s by h x.asks x.served parts x.are_served).0;
          rises = rises_before low (length h) parts.earlier parts.last (subst (λ (served : List Served). Rises low served (length h)) parts.served_are rises);
          among = subst (λ (served : List Served). AreAmong parts.earlier served) (sym parts.served_are) (among_first parts.earlier (parts.last ∷ []));
          front = [];
          others = parts.last ∷ [];
          there = parts.served_are;
          count = refl;
          whole = whole;
          nothing = nothing;
          complete = λ e. absurd (cc e);
        },
      )

  sends_replies : output ≡ replies s limit h x.asks x.served → Sends
  sends_replies is = sends_all [] [] (ap (λ (bytes : List ℕ). bytes ++ []) is) nothing_grants_nothing

  sends_wanted : (whole missing : List ℕ) → WantsMemory s limit h x.asks x.served whole → whole ≡ output ++ missing → Sends
  sends_wanted whole missing (all is) cut = sends_all missing [] (sym cut ∙ is ∙ sym (append-nil (replies s limit h x.asks x.served))) nothing_grants_nothing
  sends_wanted whole missing (all_told is) cut = sends_all missing (failure_bytes true) (sym cut ∙ is) failure_grants_nothing
  sends_wanted whole missing (without_last parts is) cut =
      sends_earlier parts missing [] (sym cut ∙ is ∙ sym (append-nil (replies s limit h parts.earlier_asks parts.earlier))) nothing_grants_nothing
  sends_wanted whole missing (in_its_place parts not_added is) cut = sends_earlier parts missing (failure_bytes true) (sym cut ∙ is) failure_grants_nothing

  sends_broken : Breaks role input s limit h x.asks x.served x.rest output → Sends
  sends_broken (replying on cut) = sends_all cut.0 [] (sym cut.1 ∙ sym (append-nil (replies s limit h x.asks x.served))) nothing_grants_nothing
  sends_broken (wanting whole on wants cut) = sends_wanted whole cut.0 wants cut.1
  sends_broken (refusing error idles cut) = sends_all cut.0 (refusal_bytes error) (sym cut.1) (refusal_grants_nothing error)

  sends_inside : (end : LinkEnd) → EndsInside role input s limit h x.asks x.served x.rest output end → Sends
  sends_inside Closed ends = sends_replies ends.1
  sends_inside Stopped ends = sends_replies ends.1
  sends_inside Spent ends = sends_replies ends.1
  sends_inside (Cut at) ends = absurd ends
  sends_inside (Refused status) ends = sends_all [] (refusal_bytes ends.0) (append-nil output ∙ ends.3) (refusal_grants_nothing ends.0)
  sends_inside LinkFault ends = sends_broken ends
  sends_inside FileFault ends = sends_replies ends.1
  sends_inside Memory ends = sends_wanted output [] ends.1 (sym (append-nil output))

  sends_at_end : (end : LinkEnd) → EndsAtEnd role input s limit h x.asks x.served x.rest output end → Sends
  sends_at_end Closed ends = sends_replies ends.2
  sends_at_end (Cut at) ends = sends_replies ends.3
  sends_at_end (Refused status) ends = absurd ends
  sends_at_end Spent ends = absurd ends
  sends_at_end Stopped ends = absurd ends
  sends_at_end LinkFault ends = absurd ends
  sends_at_end FileFault ends = absurd ends
  sends_at_end Memory ends = absurd ends

  by_end : EndsInside role input s limit h x.asks x.served x.rest output x.end ⊎ EndsAtEnd role input s limit h x.asks x.served x.rest output x.end → Sends
  by_end (inl ends) = sends_inside x.end ends
  by_end (inr ends) = sends_at_end x.end ends

pub link_sends : (s : Settings) (by limit : ℕ) (role : Role) (h : List Entry) (input output : List ℕ) (x : ServedLink s by limit role h input output)
    (low : ℕ) → Rises low x.served (length h) → (missing : List ℕ) × Left s by limit role h x.served false low 1 input (output ++ missing)
link_sends s by limit role h input output x low rises = by_end s by limit role h input output x low rises x.how

pub link_sends_all : (s : Settings) (by limit : ℕ) (role : Role) (h : List Entry) (input output : List ℕ) → (x : AnsweredAll s by limit role h input output)
    → Left s by limit role h x.served true 0 1 input output
link_sends_all s by limit role h input output x = record {
  asks = x.asks;
  rest = [];
  served = x.served;
  tail = [];
  joins = x.joins;
  are_served = x.are_served;
  rises = x.rises;
  among = among_all x.served;
  front = [];
  others = [];
  there = sym (append-nil x.served);
  count = refl;
  whole = x.written ∙ sym (append-nil (replies s limit h x.asks x.served));
  nothing = nothing_grants_nothing;
  complete = λ e. (refl, refl, x.granted);
}
