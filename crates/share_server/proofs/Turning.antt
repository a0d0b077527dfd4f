-- What one turn at a share reports of a request, and what its handle has then served.
use Rattle.std.proofs.Common.{◌≡◌, ◌≤◌, ◌<◌, ℕ, ◌+◌, ◌-◌, zero, suc, List, [], ◌∷◌, ◌++◌, length, take, drop, Bool, true, false, cond, ◌==◌, true≢false, is_some, Option, Some, None, MatchBool, refl, sym, ap, ◌∙◌, subst, inl, arith, append_assoc, append-nil, length-append, eq-eqb}
use Rattle.std.proofs.Math.Seq.{take-length, take-append_seam, drop-append_seam}
use Rattle.std.specs.Option.{option_to_list}
use Rattle.std.specs.Prelude.{All, Result, Ok, Err, IsOk, IfOk, OnErr}
use Rattle.std.specs.declared.alloc.AllocError.{AllocError}
use Rattle.item_model.specs.declared.changes.Entry.{Entry}
use Rattle.share_asks.specs.declared.ask.Ask.{Ask}
use Rattle.share_asks.specs.declared.ask.Want.{Want}
use Rattle.share_history.specs.Histories.{batches, revision}
use Rattle.share_history.specs.Sessions.{is_live, is_stopped}
use Rattle.share_history.specs.Marks.{until_login}
use Rattle.share_lock.specs.Histories.{entries_of, Continues}
use Rattle.share_lock.specs.Known.{numbers_of, after_turn}
use Rattle.share_lock.proofs.Fronts.{adds_own}
use Rattle.share_replies.specs.Settings.{Settings}
use Rattle.share_replies.specs.Replies as replies
use Rattle.share_replies.specs.Replies.{Replies, Holds, answer_to}
use Rattle.share_replies.specs.Added.{adds, after}
use Rattle.share_replies.specs.Answers.{Shared, told, left}
use Rattle.share_replies.specs.Laws.{maker}
use Rattle.share_replies.proofs.ReplyFacts.{no_reply_is_a_failure, entries_are_the_askers}
use Rattle.share_core.specs.declared.answer.Answer.{Answer}
use Rattle.share_core.specs.declared.answer.Answer.TheVariants as answer
use Rattle.share_core.specs.declared.answer.Reply.{Reply}
use Rattle.share_core.specs.Told.{IsTold, IsReply, IsAnswer}
use Rattle.share_core.specs.Steps.{IsBetween, IsMarked}
use Rattle.share_core.specs.Laws.{Grows}
use Rattle.share_core.specs.Wants.{is_free}
use Rattle.share_core.proofs.Growing.{answers_grow}
use Rattle.http_front.specs.ReplyHeads.{HasReason}
use Rattle.reply_bytes.specs.ReplyBytes.{failure_bytes, reply_bytes}
use Rattle.reply_bytes.proofs.ReasonFacts.{replies_have_reasons}
use Rattle.share_server.specs.declared.report.Served.{Served}
use Rattle.share_server.specs.Served.{at_point, answered_on, added_part, IsGivenUp, IsReplied, IsServed}
use Rattle.share_server.specs.Replies.{answer_bytes, served_bytes}
use Rattle.share_server.specs.Passes.{Pass, Serves}
use Rattle.share_server.specs.declared.turns.outcome.TurnOutcome.{TurnOutcome}
use Rattle.share_server.specs.declared.turns.outcome.TurnOutcome.TheVariants as outcome
use Rattle.share_server.specs.Answering.{Says, IsTurnOutcome, Finds, HasAdded, has_added, loses_in, served_of, given_up, turn_outcome}
use Rattle.share_server.proofs.InTurn.{looked_once}
use Rattle.share_server.proofs.Saying.{writes, said_bytes}

-- ---- a history, and what was added to it

record Parts (h : List Entry) (new : Option Entry) : Type 0 where
  before : answered_on (is_some new) (h ++ option_to_list new) ≡ h
  part : added_part (is_some new) (h ++ option_to_list new) ≡ option_to_list new

parts : (h : List Entry) (new : Option Entry) → Parts h new
parts h None = record { before = append-nil h; part = refl }
parts h (Some e) =
    let len : length (h ++ e ∷ []) - 1 ≡ length h = (let l = length-append h (e ∷ []) in omega arith) in record {
      before = ap (λ n. take n (h ++ e ∷ [])) len ∙ take-append_seam h (e ∷ []);
      part = ap (λ n. drop n (h ++ e ∷ [])) len ∙ drop-append_seam h (e ∷ []);
    }

-- ---- what a handle serves in a turn that left this history

-- none of its own entries is later than what it had seen
pub own_stays : (k : Pass) (h : List Entry) → Continues maker (numbers_of k) k.seen h → entries_of maker k.number h ≡ entries_of maker k.number k.seen
own_stays k h on = on.own k.number (0, omega arith, refl)

pub serves_nothing : (k : Pass) (h : List Entry) → Continues maker (numbers_of k) k.seen h → Serves k (after_turn k h) [] []
serves_nothing k h on = record {
  fresh = looked_once k h on.more on.begins;
  stays = refl;
  are_served = tt;
  own = own_stays k h on ∙ sym (append-nil (entries_of maker k.number k.seen));
}

-- one request, at the end of the history, after what was added for it
record Shows (k : Pass) (h new : List Entry) (want : Want) (s : Served) : Type 0 where
  point : s.point ≡ length (h ++ new)
  served : IsServed k.settings k.number (h ++ new) want s
  part : added_part s.added (at_point (h ++ new) s) ≡ new
  within : s.seen ≤ s.point
  counts : cond s.added 1 0 ≤ length new
  late : 0 < s.session → is_live (answered_on s.added (at_point (h ++ new) s)) s.session ≡ true
      → length (until_login s.session (answered_on s.added (at_point (h ++ new) s))) ≤ s.seen

-- a length is at or after what was seen and then what was added
rises_by : (a b c d e : ℕ) → a ≤ b → c ≤ d → e ≡ b + d → a + c ≤ e
rises_by a b c d e le le' is = omega arith

serves_one : (k : Pass) (h new : List Entry) (ask : Ask) (s : Served) → Continues maker (numbers_of k) k.seen h → All (λ e. maker e ≡ k.number) new
    → Shows k h new ask.want s → Serves k (after_turn k (h ++ new)) (ask ∷ []) (s ∷ [])
serves_one k h new ask s on own shows =
    let first : length h ≡ length k.seen + length on.more = ap length on.begins ∙ length-append k.seen on.more in
    let len : length (h ++ new) ≡ length h + length new = length-append h new in
    let point : s.point ≡ length (h ++ new) = shows.point in
    record {
      fresh = record {
        more = on.more ++ new;
        grows = ap (λ l. l ++ new) on.begins ∙ append_assoc k.seen on.more new;
        looks = length (h ++ new) ∷ [];
        looked = refl;
        rises = (rises_by (length k.seen) (length h) (cond s.added 1 0) (length new) s.point (omega arith) shows.counts (point ∙ len), omega arith);
        among = inl (point, tt);
        marked = (record { within = shows.within; late = shows.late }, tt);
      };
      stays = refl;
      are_served = (shows.served, tt);
      own = adds_own maker k.number h (h ++ new) (new, refl, own) new refl
          ∙ (ap (λ es. es ++ new) (own_stays k h on)
          ∙ ap (λ es. entries_of maker k.number k.seen ++ es) (sym (append-nil new) ∙ ap (λ es. es ++ []) (sym shows.part)));
    }

-- ---- no memory

abbrev pub unanswered : ℕ → Bool → ℕ → TurnOutcome
unanswered point stopped revised = outcome.Answered (record { served = given_up point; said = None; stopped = stopped; revision = revised })

-- the history is the one that was found
pub failed_at : (k : Pass) (h : List Entry) (ask : Ask) (point : ℕ) (stopped : Bool) (revised : ℕ) → Continues maker (numbers_of k) k.seen h → point ≡ length h
    → stopped ≡ is_stopped h → revised ≡ revision (batches h) → (is_free ask.want ≡ true → is_stopped h ≡ true)
    → IsTurnOutcome k (after_turn k h) ask (unanswered point stopped revised)
failed_at k h ask point stopped revised on at is is_now free =
    let whole : h ++ [] ≡ h = append-nil h in
    let here : h ≡ take point h = sym (ap (λ n. take n h) at ∙ take-length h) in
    let served : Serves k (after_turn k (h ++ [])) (ask ∷ []) (given_up point ∷ []) =
    serves_one k h [] ask (given_up point) on (λ i d less. absurd (omega (arith, less))) (record {
      point = at ∙ ap length (sym whole);
      served = record { within = (let e : point ≡ length (h ++ []) = at ∙ ap length (sym whole) in omega arith); how = record { session = refl; seen = refl; added = refl } };
      part = refl;
      within = omega arith;
      counts = omega arith;
      late = λ above live. absurd (omega (arith, above));
    }) in record {
      serves = subst (λ h'. Serves k (after_turn k h') (ask ∷ []) (given_up point ∷ [])) whole served;
      latest = at;
      stopped = is ∙ ap is_stopped here;
      revised = is_now ∙ ap (λ (p : List Entry). revision (batches p)) here;
      free = λ wanted failed. free wanted;
      said = refl;
    }

-- ---- a reply

abbrev pub answered_by : Reply → Bool → ℕ → TurnOutcome
answered_by r stopped revised = outcome.Answered (record { served = served_of r; said = Some r.content; stopped = stopped; revision = revised })

count_of : (new : Option Entry) → cond (is_some new) 1 0 ≤ length (option_to_list new)
count_of None = omega arith
count_of (Some e) = omega arith

module _ (k : Pass) (h : List Entry) (ask : Ask) (reply : replies.Reply) (mark : ℕ) (r : Reply)
    (answers : answer_to k.settings h ask.want ≡ Replies reply)
    (is : IsReply reply (length (after h k.number ask.want)) mark (is_some (adds h k.number ask.want)) r) where
  abbrev added : Option Entry
  added = adds h k.number ask.want

  abbrev h' : List Entry
  h' = h ++ option_to_list added

  abbrev s : Served
  s = served_of r

  whole : at_point h' s ≡ h'
  whole = ap (λ n. take n h') is.point ∙ take-length h'

  before : answered_on s.added (at_point h' s) ≡ h
  before = (λ i. answered_on (is.added i) (whole i)) ∙ (parts h added).before

  part : added_part s.added (at_point h' s) ≡ option_to_list added
  part = (λ i. added_part (is.added i) (whole i)) ∙ (parts h added).part

  other : (s.status == 500) ≡ false
  other = ap (λ n. n == 500) is.content.0 ∙ no_reply_is_a_failure k.settings h ask.want reply answers

  replying : answer_to k.settings (answered_on s.added (at_point h' s)) ask.want ≡ Replies reply
  replying = ap (λ p. answer_to k.settings p ask.want) before ∙ answers

  replied : IsReplied k.settings k.number (at_point h' s) ask.want s
  replied = record {
    reply = reply;
    replies = replying;
    status = is.content.0;
    session = is.session;
    adds_it = part ∙ ap (λ p. option_to_list (adds p k.number ask.want)) (sym before);
    added = is.added ∙ ap (λ p. is_some (adds p k.number ask.want)) (sym before);
  }

  served : IsServed k.settings k.number h' ask.want s
  served = record {
    within = (let e : r.point ≡ length h' = is.point in omega arith);
    how = subst (λ b. MatchBool b (IsGivenUp s) (IsReplied k.settings k.number (at_point h' s) ask.want s)) (sym other) replied;
  }

  shows : IsBetween h r → Shows k h (option_to_list added) ask.want s
  shows between = record {
    point = is.point;
    served = served;
    part = part;
    within = (let e : r.point ≡ length h' = is.point in let l : length h' ≡ length h + length (option_to_list added) = length-append h (option_to_list added) in
        let u : r.seen ≤ length h = between.until in omega arith);
    counts = subst (λ b. cond b 1 0 ≤ length (option_to_list added)) (sym is.added) (count_of added);
    late = subst (λ p. 0 < s.session → is_live p s.session ≡ true → length (until_login s.session p) ≤ s.seen) (sym before) (λ above live. between.since live);
  }

  bytes : (last : Bool) → served_bytes k.settings (at_point h' s) ask s last ≡ reply_bytes reply last
  bytes last =
      ap (λ b. cond b (failure_bytes last) (answer_bytes (answer_to k.settings (answered_on s.added (at_point h' s)) ask.want) last)) other
      ∙ ap (λ a. answer_bytes a last) replying

  says : Says k.settings (at_point h' s) ask s (Some r.content)
  says = (
    subst (λ n. HasReason n) (sym is.content.0) (replies_have_reasons k.settings h ask.want reply answers),
    (writes reply.body r.content.form r.content.plan is.content.1).writable,
    λ last. said_bytes reply r.content last is.content ∙ sym (bytes last),
  )

  replied_at : (stopped : Bool) (revised : ℕ) → Continues maker (numbers_of k) k.seen h → All (λ e. maker e ≡ k.number) (option_to_list added) → IsBetween h r
      → stopped ≡ is_stopped h' → revised ≡ revision (batches h') → IsTurnOutcome k (after_turn k h') ask (answered_by r stopped revised)
  replied_at stopped revised on own between is_so is_now = record {
    serves = serves_one k h (option_to_list added) ask s on own (shows between);
    latest = is.point;
    stopped = is_so ∙ ap is_stopped (sym whole);
    revised = is_now ∙ ap (λ (p : List Entry). revision (batches p)) (sym whole);
    free = λ wanted failed. absurd (true≢false (sym (eq-eqb s.status 500 failed) ∙ other));
    said = says;
  }

-- ---- the answer to the request

all_made : (by : ℕ) (new : Option Entry) → ((e : Entry) → new ≡ Some e → maker e ≡ by) → All (λ e. maker e ≡ by) (option_to_list new)
all_made by None own i d less = absurd (omega (arith, less))
all_made by (Some e) own zero d less = own e refl
all_made by (Some e) own (suc i) d less = absurd (omega (arith, less))

left_by : (k : Pass) (old new : Shared) (ask : Ask) (r : Reply) (stopped : Bool) (revised : ℕ) → Finds k old → (a : replies.Answer)
    → answer_to old.settings old.history ask.want ≡ a → IsTold (told old k.number ask.want a) (answer.Reply r) → new ≡ left old k.number ask.want a
    → IsBetween old.history r → stopped ≡ is_stopped new.history → revised ≡ revision (batches new.history)
    → IsTurnOutcome k (after_turn k new.history) ask (answered_by r stopped revised)
left_by k old new ask r stopped revised found Holds answers is share between is_so is_now = absurd is
left_by k old new ask r stopped revised found (Replies reply) answers is share between is_so is_now =
    let grown : new.history ≡ after old.history k.number ask.want = ap (λ (s : Shared). s.history) share in
    subst (λ h. IsTurnOutcome k (after_turn k h) ask (answered_by r stopped revised)) (sym grown)
    (replied_at k old.history ask reply _ r (ap (λ (s : Settings). answer_to s old.history ask.want) (sym found.settings) ∙ answers) is stopped revised found.history
    (all_made k.number (adds old.history k.number ask.want) (entries_are_the_askers old.history k.number ask.want)) between (is_so ∙ ap is_stopped grown)
    (is_now ∙ ap (λ (h : List Entry). revision (batches h)) grown))

held_by : (k : Pass) (old new : Shared) (ask : Ask) (now point : ℕ) → Finds k old → (a : replies.Answer)
    → IsTold (told old k.number ask.want a) (answer.Wait now point) → new ≡ left old k.number ask.want a → IsTurnOutcome k (after_turn k new.history) ask (outcome.Held point)
held_by k old new ask now point found (Replies reply) is share = absurd is
held_by k old new ask now point found Holds is share =
    subst (λ (s : Shared). IsTurnOutcome k (after_turn k s.history) ask (outcome.Held point)) (sym share) (serves_nothing k old.history found.history, is.1)

-- what a call on the share gave, and what the share is then
pub record Asked (old new : Shared) (by : ℕ) (want : Want) (result : Result Answer AllocError) (stopped : Bool) (revised end : ℕ) : Type 0 where
  pub answered : IfOk result (IsAnswer old new by want)
  pub marked : IfOk result (IsMarked old.history)
  pub unchanged : OnErr result (new ≡ old)
  pub free : is_stopped old.history ≡ false → is_free want ≡ true → IsOk result
  pub stopped_is : stopped ≡ is_stopped new.history
  pub revised_is : revised ≡ revision (batches new.history)
  pub end_is : end ≡ length new.history

-- an allocation that fails for an operation that does not allocate shows that the share was stopped
free_failed : (error : AllocError) (stopped free : Bool) → (stopped ≡ false → free ≡ true → IsOk {T = Answer} (Err error)) → free ≡ true → stopped ≡ true
free_failed error true free ok wanted = refl
free_failed error false free ok wanted = absurd (true≢false (sym (ok refl wanted)))

pub asked_at : (k : Pass) (old new : Shared) (by : ℕ) (ask : Ask) (result : Result Answer AllocError) (stopped : Bool) (revised end : ℕ) → k.number ≡ by → Finds k old
    → Asked old new by ask.want result stopped revised end → IsTurnOutcome k (after_turn k new.history) ask (turn_outcome result stopped revised end)
asked_at k old new by ask (Ok (answer.Reply r)) stopped revised end own found asked =
    let mine : IsAnswer old new k.number ask.want (answer.Reply r) = subst (λ n. IsAnswer old new n ask.want (answer.Reply r)) (sym own) asked.answered in
    left_by k old new ask r stopped revised found (answer_to old.settings old.history ask.want) refl mine.told mine.share asked.marked asked.stopped_is asked.revised_is
asked_at k old new by ask (Ok (answer.Wait now point)) stopped revised end own found asked =
    let mine : IsAnswer old new k.number ask.want (answer.Wait now point) = subst (λ n. IsAnswer old new n ask.want (answer.Wait now point)) (sym own) asked.answered in
    held_by k old new ask now point found (answer_to old.settings old.history ask.want) mine.told mine.share
asked_at k old new by ask (Err error) stopped revised end own found asked =
    let same : new ≡ old = asked.unchanged in
    subst (λ (s : Shared). IsTurnOutcome k (after_turn k s.history) ask (unanswered end stopped revised)) (sym same)
    (failed_at k old.history ask end stopped revised found.history (asked.end_is ∙ ap (λ (s : Shared). length s.history) same)
    (asked.stopped_is ∙ ap (λ (s : Shared). is_stopped s.history) same) (asked.revised_is ∙ ap (λ (s : Shared). revision (batches s.history)) same)
    (free_failed error (is_stopped old.history) (is_free ask.want) asked.free))

-- no answer is a loss
pub told_no_loss : (result : Result Answer AllocError) (stopped : Bool) (revised end : ℕ) → loses_in (turn_outcome result stopped revised end) ≡ false
told_no_loss (Ok (answer.Reply r)) stopped revised end = refl
told_no_loss (Ok (answer.Wait now point)) stopped revised end = refl
told_no_loss (Err error) stopped revised end = refl

added_by : (h : List Entry) (by : ℕ) (want : Want) (o : Option Entry) → adds h by want ≡ o → HasAdded (is_some o) h by want (h ++ option_to_list o)
added_by h by want None is = append-nil h
added_by h by want (Some e) is = (e, is, refl)

replied_adds : (old new : Shared) (by : ℕ) (want : Want) (r : Reply) (a : replies.Answer) → IsTold (told old by want a) (answer.Reply r) → new ≡ left old by want a
    → HasAdded r.added old.history by want new.history
replied_adds old new by want r Holds is share = absurd is
replied_adds old new by want r (Replies reply) is share =
    subst (λ b. HasAdded b old.history by want new.history) (sym is.added)
    (subst (λ (s : Shared). HasAdded (is_some (adds old.history by want)) old.history by want s.history) (sym share)
    (added_by old.history by want (adds old.history by want) refl))

held_adds : (old new : Shared) (by : ℕ) (want : Want) (now point : ℕ) (a : replies.Answer) → IsTold (told old by want a) (answer.Wait now point) → new ≡ left old by want a
    → new.history ≡ old.history
held_adds old new by want now point (Replies reply) is share = absurd is
held_adds old new by want now point Holds is share = ap (λ (s : Shared). s.history) share

-- the history has what the answer says that it added
pub added_at : (old new : Shared) (by : ℕ) (want : Want) (result : Result Answer AllocError) (stopped : Bool) (revised end : ℕ)
    → IfOk result (IsAnswer old new by want) → OnErr result (new ≡ old) → HasAdded (has_added (turn_outcome result stopped revised end)) old.history by want new.history
added_at old new by want (Ok (answer.Reply r)) stopped revised end is same =
    replied_adds old new by want r (answer_to old.settings old.history want) is.told is.share
added_at old new by want (Ok (answer.Wait now point)) stopped revised end is same =
    held_adds old new by want now point (answer_to old.settings old.history want) is.told is.share
added_at old new by want (Err error) stopped revised end is same = ap (λ (s : Shared). s.history) same

-- the handle has then seen what the answer left
pub turned : (k k' : Pass) (h : List Entry) (ask : Ask) (outcome : TurnOutcome) → k' ≡ after_turn k h → IsTurnOutcome k (after_turn k h) ask outcome → IsTurnOutcome k k' ask outcome
turned k k' h ask outcome left is = subst (λ now. IsTurnOutcome k now ask outcome) (sym left) is

-- ---- what a turn adds

pub grows_at : (old new : Shared) (by : ℕ) (want : Want) (result : Result Answer AllocError) → IfOk result (IsAnswer old new by want) → OnErr result (new ≡ old) → Grows old by new
grows_at old new by want (Ok told_it) is same = answers_grow old new by want told_it is
grows_at old new by want (Err error) is same =
    subst (Grows old by) (sym same) (refl, [], sym (append-nil old.history), λ i d less. absurd (omega (arith, less)))
