-- The next answer on a connection, and that each answer leaves fewer.
use Rattle.std.proofs.Common.{◌≡◌, ◌+◌, ◌-◌, ◌<◌, ◌≤◌, ◌++◌, ℕ, List, Bool, true, false, ◌==◌, Option, Some, None, Result, Ok, Err, IfOk, OnOk, OnErr, is_some, if◌then◌else◌, refl, ap, ◌∙◌, subst, arith, inr}
use Rattle.std.specs.Option.{option_or}
use Rattle.std.proofs.KnownBytes.{Appends-nil, Appends-trans}
use Rattle.std.specs.Io.KnownBytes.{Appends}
use Rattle.outside_net.specs.Told.{AppendsPrefix}
use Rattle.http_heads.specs.declared.refusal.HeadError.{HeadError}
use Rattle.item_model.specs.declared.changes.Entry.{Entry}
use Rattle.listing_plan.specs.Plans.{plan_bytes}
use Rattle.reply_bytes.specs.ReplyBytes.{reply_bytes, status_of, with_head}
use Rattle.reply_bytes.proofs.Cut.{cut_behind}
use Rattle.share_asks.specs.declared.ask.Ask.{Ask}
use Rattle.share_core.specs.declared.answer.ReplyContent.{ReplyContent}
use Rattle.share_history.specs.Sessions.{is_stopped}
use Rattle.share_replies.specs.Added.{after}
use Rattle.share_replies.specs.Answers.{Shared}
use Rattle.share_replies.specs.Replies.{Holds, answer_to}
use Rattle.share_replies.specs.Settings.{Settings}
use Rattle.share_replay.specs.Connections.{Connection, asked_on, end_of_input, ended_by, fault_on, next_ask, reading_on}
use Rattle.share_replay.specs.Ends.{end_line, reply_lines}
use Rattle.share_replay.specs.Played.{BreaksOff, HasAnswered, IsHalfTold, IsUntold}
use Rattle.share_replay.specs.Told.{IsDueRefusal, IsDueReply}
use Rattle.share_replay.specs.Turns.{Answers, Refuses, due_for, due_next, due_on, last_by, left_on, most_requests, one_more, refused_with, turn_for, turn_with}
use Rattle.share_replay.specs.declared.ends.End.{End}
use Rattle.share_replay.specs.declared.ends.End.TheVariants.{Closed, Spent, Stopped}
use Rattle.share_replay.specs.declared.replay_error.ReplayError.{ReplayError}
use Rattle.share_replay.proofs.Written.{all_taken, cut_before}

-- ---- the next answer

unless_ended : {A : Type 0} (b : Bool) (o : Option A) (a : A) → (if b then None else o) ≡ Some a → (b ≡ false) × (o ≡ Some a)
unless_ended true o a is = absurd (cc)
unless_ended false o a is = (refl, is)

pub goes_on : (c : Connection) (ask : Ask) → asked_on c ≡ Some ask → c.is_ended ≡ false
goes_on c ask is = (unless_ended c.is_ended (next_ask c) ask is).0

pub goes_on_refused : (c : Connection) (e : HeadError) → fault_on c ≡ Some e → c.is_ended ≡ false
goes_on_refused c e is = (unless_ended c.is_ended (reading_on c).fault e is).0

pub due_asked : (s : Settings) (h : List Entry) (c : Connection) (ask : Ask) → asked_on c ≡ Some ask → due_on s h c ≡ due_for ask (answer_to s h ask.want)
due_asked s h c ask is =
    let both = unless_ended c.is_ended (next_ask c) ask is in
    ap (λ (b : Bool). if b then None else due_next s h (next_ask c) (reading_on c).fault) both.0
    ∙ ap (λ (o : Option Ask). due_next s h o (reading_on c).fault) both.1

not_asked : (s : Settings) (h : List Entry) (b : Bool) (next : Option Ask) (fault : Option HeadError) → (if b then None else next) ≡ None
    → (if b then None else due_next s h next fault) ≡ due_next s h None (if b then None else fault)
not_asked s h true next fault is = refl
not_asked s h false next fault is = ap (λ (o : Option Ask). due_next s h o fault) is

pub due_unasked : (s : Settings) (h : List Entry) (c : Connection) → asked_on c ≡ None → due_on s h c ≡ due_next s h None (fault_on c)
due_unasked s h c is = not_asked s h c.is_ended (next_ask c) (reading_on c).fault is

pub due_fault : (s : Settings) (h : List Entry) (c : Connection) (e : HeadError) → asked_on c ≡ None → fault_on c ≡ Some e → due_on s h c ≡ Some (Refuses e)
due_fault s h c e none is = due_unasked s h c none ∙ ap (λ (o : Option HeadError). due_next s h None o) is

pub due_nothing : (s : Settings) (h : List Entry) (c : Connection) → asked_on c ≡ None → fault_on c ≡ None → due_on s h c ≡ None
due_nothing s h c none fine = due_unasked s h c none ∙ ap (λ (o : Option HeadError). due_next s h None o) fine

pub due_held : (s : Settings) (h : List Entry) (c : Connection) (ask : Ask) → asked_on c ≡ Some ask → answer_to s h ask.want ≡ Holds → due_on s h c ≡ None
due_held s h c ask is holds = due_asked s h c ask is ∙ ap (due_for ask) holds

-- ---- fewer are left

left_going : (c : Connection) → c.is_ended ≡ false → left_on c ≡ most_requests + 1 - c.served
left_going c is = ap (λ (b : Bool). if b then 0 else most_requests + 1 - c.served) is

left_at_most : (b : Bool) (n : ℕ) → (if b then 0 else n) ≤ n
left_at_most true n = omega arith
left_at_most false n = omega arith

pub fewer_answered : (c : Connection) (end : Option End) → c.is_ended ≡ false → c.served < most_requests → left_on (ended_by end (one_more c)) < left_on c
fewer_answered c end is few =
    let before = left_going c is in
    let most = left_at_most (is_some end) (most_requests + 1 - (c.served + 1)) in
    omega (arith, before, most, few)

pub fewer_refused : (c : Connection) → c.is_ended ≡ false → c.served < most_requests → left_on (record c { is_ended = true }) < left_on c
fewer_refused c is few = let before = left_going c is in omega (arith, before, few)

pub some_left : (c : Connection) → c.is_ended ≡ false → c.served < most_requests → 0 < left_on c
some_left c is few = let before = left_going c is in omega (arith, before, few)

-- ---- the last request

spent_or : (b : Bool) (o : Option End) → (if b then Some Spent else o) ≡ None → b ≡ false
spent_or true o is = absurd (cc)
spent_or false o is = refl

stopped_or : (b : Bool) (o : Option End) → (if b then Some Stopped else o) ≡ None → o ≡ None
stopped_or true o is = absurd (cc)
stopped_or false o is = is

-- a reply that is not the last is not the last that a connection may have
pub not_spent : (h : List Entry) (served : ℕ) (close : Bool) → last_by h served close ≡ None → (served == most_requests) ≡ false
not_spent h served close is =
    spent_or (served == most_requests) (if close then Some Closed else None)
    (stopped_or (is_stopped h) (if served == most_requests then Some Spent else (if close then Some Closed else None)) is)

-- ---- an answer on a connection

same_written : (number : ℕ) (h : List Entry) (c : Connection) (f g : Bool → List ℕ) (close : Bool) → ((last : Bool) → f last ≡ g last)
    → (turn_with number h c f close).written ≡ (turn_with number h c g close).written
same_written number h c f g close same =
    let last = last_by h (c.served + 1) close in
    ap (λ (bytes : List ℕ). reply_lines number bytes ++ end_line number (option_or last (end_of_input (one_more c)))) (same (is_some last))

-- ---- parts of a reply and of the end after it

pub cut_reply : (number : ℕ) (h : List Entry) (c : Connection) (f : Bool → List ℕ) (close : Bool) (last : Option End) (b : Bool) (t t' : Option (List ℕ))
    → last ≡ last_by h (c.served + 1) close → b ≡ is_some last → AppendsPrefix t t' (reply_lines number (f b)) → AppendsPrefix t t' (turn_with number h c f close).written
cut_reply number h c f close last b t t' is some cut =
    cut_before (reply_lines number (f (is_some (last_by h (c.served + 1) close)))) (end_line number (option_or (last_by h (c.served + 1) close) (end_of_input (one_more c)))) t t'
    (subst (λ (x : Bool). AppendsPrefix t t' (reply_lines number (f x))) (some ∙ ap (λ (o : Option End). is_some o) is) cut)

pub told_reply : (number : ℕ) (h : List Entry) (c : Connection) (f : Bool → List ℕ) (close : Bool) (last : Option End) (b : Bool) (t t' : Option (List ℕ))
    → last ≡ last_by h (c.served + 1) close → b ≡ is_some last → Appends t t' (reply_lines number (f b)) → AppendsPrefix t t' (turn_with number h c f close).written
told_reply number h c f close last b t t' is some told =
    cut_reply number h c f close last b t t' is some (all_taken t t' (reply_lines number (f b)) told)

pub cut_end : (number : ℕ) (h : List Entry) (c : Connection) (f : Bool → List ℕ) (close : Bool) (last end : Option End) (b : Bool) (t u v : Option (List ℕ))
    → last ≡ last_by h (c.served + 1) close → b ≡ is_some last → end ≡ option_or last (end_of_input (one_more c)) → Appends t u (reply_lines number (f b))
    → AppendsPrefix u v (end_line number end) → AppendsPrefix t v (turn_with number h c f close).written
cut_end number h c f close last end b t u v is some ends told cut =
    cut_behind (reply_lines number (f (is_some (last_by h (c.served + 1) close)))) (end_line number (option_or (last_by h (c.served + 1) close) (end_of_input (one_more c)))) t u v
    (subst (λ (x : Bool). Appends t u (reply_lines number (f x))) (some ∙ ap (λ (o : Option End). is_some o) is) told)
    (subst (λ (x : Option End). AppendsPrefix u v (end_line number x)) (ends ∙ ap (λ (o : Option End). option_or o (end_of_input (one_more c))) is) cut)

pub told_end : (number : ℕ) (h : List Entry) (c : Connection) (f : Bool → List ℕ) (close : Bool) (last end : Option End) (b : Bool) (t u v : Option (List ℕ))
    → last ≡ last_by h (c.served + 1) close → b ≡ is_some last → end ≡ option_or last (end_of_input (one_more c)) → Appends t u (reply_lines number (f b))
    → Appends u v (end_line number end) → Appends t v (turn_with number h c f close).written
told_end number h c f close last end b t u v is some ends told line =
    Appends-trans t u v (reply_lines number (f (is_some (last_by h (c.served + 1) close)))) (end_line number (option_or (last_by h (c.served + 1) close) (end_of_input (one_more c))))
    (subst (λ (x : Bool). Appends t u (reply_lines number (f x))) (some ∙ ap (λ (o : Option End). is_some o) is) told)
    (subst (λ (x : Option End). Appends u v (end_line number x)) (ends ∙ ap (λ (o : Option End). option_or o (end_of_input (one_more c))) is) line)

-- ---- whole turns

replied_bytes : (old new : Shared) (number : ℕ) (c : Connection) (content : ReplyContent) (close : Bool) → (told : IsDueReply old new number c content close)
    → (turn_with number new.history c (with_head content.status content.form (plan_bytes content.plan)) close).written
    ≡ (turn_for number old.history c (Answers told.ask told.says.reply)).written
replied_bytes old new number c content close told =
    same_written number new.history c (with_head content.status content.form (plan_bytes content.plan)) (reply_bytes told.says.reply) close told.says.spells.bytes
    ∙ ap (λ (h : List Entry). (turn_with number h c (reply_bytes told.says.reply) close).written) told.says.history
    ∙ ap (λ (b : Bool). (turn_with number (after old.history number told.ask.want) c (reply_bytes told.says.reply) b).written) told.closes

pub replied : (old new : Shared) (number : ℕ) (c c' : Connection) (content : ReplyContent) (close : Bool) (t t' : Option (List ℕ)) → IsDueReply old new number c content close
    → c' ≡ (turn_with number new.history c (with_head content.status content.form (plan_bytes content.plan)) close).connection
    → Appends t t' (turn_with number new.history c (with_head content.status content.form (plan_bytes content.plan)) close).written
    → HasAnswered old.settings number old.history c new.history c' t t'
replied old new number c c' content close t t' told connection written = record {
  due = Answers told.ask told.says.reply;
  is_due = due_asked old.settings old.history c told.ask told.asked ∙ ap (due_for told.ask) told.says.answer;
  history = told.says.history;
  connection =
      connection
      ∙ ap (λ (h : List Entry). (turn_with number h c (reply_bytes told.says.reply) close).connection) told.says.history
      ∙ ap (λ (b : Bool). (turn_with number (after old.history number told.ask.want) c (reply_bytes told.says.reply) b).connection) told.closes;
  written = subst (Appends t t') (replied_bytes old new number c content close told) written;
}

pub half_replied : (old new : Shared) (number : ℕ) (c : Connection) (content : ReplyContent) (close : Bool) (t t' : Option (List ℕ)) → IsDueReply old new number c content close
    → AppendsPrefix t t' (turn_with number new.history c (with_head content.status content.form (plan_bytes content.plan)) close).written
    → IsHalfTold old.settings number old.history c new.history t t'
half_replied old new number c content close t t' told written = record {
  due = Answers told.ask told.says.reply;
  is_due = due_asked old.settings old.history c told.ask told.asked ∙ ap (due_for told.ask) told.says.answer;
  some = some_left c (goes_on c told.ask told.asked) told.few;
  history = told.says.history;
  taken = subst (AppendsPrefix t t') (replied_bytes old new number c content close told) written;
}

refused_bytes : (number : ℕ) (h : List Entry) (c : Connection) (status : ℕ) (e : HeadError) → status ≡ status_of e
    → (refused_with number h c status).written ≡ (turn_for number h c (Refuses e)).written
refused_bytes number h c status e is = ap (λ (n : ℕ). (refused_with number h c n).written) is

pub refused : (old new : Shared) (number : ℕ) (c c' : Connection) (status : ℕ) (t t' : Option (List ℕ)) → IsDueRefusal old new c status
    → c' ≡ record c { is_ended = true } → ((h : List Entry) → Appends t t' (refused_with number h c status).written)
    → HasAnswered old.settings number old.history c new.history c' t t'
refused old new number c c' status t t' told connection written = record {
  due = Refuses told.error;
  is_due = due_fault old.settings old.history c told.error told.asked told.fault;
  history = ap (λ (s : Shared). s.history) told.stays;
  connection = connection;
  written = subst (Appends t t') (refused_bytes number old.history c status told.error told.by) (written old.history);
}

pub half_refused : (old new : Shared) (number : ℕ) (c : Connection) (status : ℕ) (t t' : Option (List ℕ)) → IsDueRefusal old new c status
    → ((h : List Entry) → AppendsPrefix t t' (refused_with number h c status).written)
    → IsHalfTold old.settings number old.history c new.history t t'
half_refused old new number c status t t' told written = record {
  due = Refuses told.error;
  is_due = due_fault old.settings old.history c told.error told.asked told.fault;
  some = some_left c (goes_on_refused c told.error told.fault) told.few;
  history = ap (λ (s : Shared). s.history) told.stays;
  taken = subst (AppendsPrefix t t') (refused_bytes number old.history c status told.error told.by) (written old.history);
}

pub untold : (h h' : List Entry) (t : Option (List ℕ)) → h' ≡ h → IsUntold h h' t t
untold h h' t same = record { history = same; taken = Appends-nil t }

-- ---- by the result of the call

pub reply_answered : (r : Result Bool ReplayError) (old new : Shared) (number : ℕ) (c c' : Connection) (content : ReplyContent) (close : Bool) (t t' : Option (List ℕ))
    → IsDueReply old new number c content close
    → OnOk r (c' ≡ (turn_with number new.history c (with_head content.status content.form (plan_bytes content.plan)) close).connection)
    → OnOk r (Appends t t' (turn_with number new.history c (with_head content.status content.form (plan_bytes content.plan)) close).written)
    → IfOk r (λ was. was ≡ true → HasAnswered old.settings number old.history c new.history c' t t')
reply_answered (Ok b) old new number c c' content close t t' told connection written = λ is. replied old new number c c' content close t t' told connection written
reply_answered (Err e) old new number c c' content close t t' told connection written = tt

pub reply_broken : (r : Result Bool ReplayError) (old new : Shared) (number : ℕ) (c : Connection) (content : ReplyContent) (close : Bool) (t t' : Option (List ℕ))
    → IsDueReply old new number c content close
    → OnErr r (AppendsPrefix t t' (turn_with number new.history c (with_head content.status content.form (plan_bytes content.plan)) close).written)
    → OnErr r (BreaksOff old.settings number old.history c new.history t t')
reply_broken (Ok b) old new number c content close t t' told part = tt
reply_broken (Err e) old new number c content close t t' told part = inr (half_replied old new number c content close t t' told part)

pub refusal_answered : (r : Result Bool ReplayError) (old new : Shared) (number : ℕ) (c c' : Connection) (status : ℕ) (t t' : Option (List ℕ))
    → IsDueRefusal old new c status → OnOk r (c' ≡ record c { is_ended = true })
    → OnOk r ((h : List Entry) → Appends t t' (refused_with number h c status).written)
    → IfOk r (λ was. was ≡ true → HasAnswered old.settings number old.history c new.history c' t t')
refusal_answered (Ok b) old new number c c' status t t' told connection written = λ is. refused old new number c c' status t t' told connection written
refusal_answered (Err e) old new number c c' status t t' told connection written = tt

pub refusal_broken : (r : Result Bool ReplayError) (old new : Shared) (number : ℕ) (c : Connection) (status : ℕ) (t t' : Option (List ℕ))
    → IsDueRefusal old new c status → OnErr r ((h : List Entry) → AppendsPrefix t t' (refused_with number h c status).written)
    → OnErr r (BreaksOff old.settings number old.history c new.history t t')
refusal_broken (Ok b) old new number c status t t' told part = tt
refusal_broken (Err e) old new number c status t t' told part = inr (half_refused old new number c status t t' told part)
