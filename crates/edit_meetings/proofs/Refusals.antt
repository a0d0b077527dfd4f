-- Why a share refuses a pushed edit or a stop.
use Rattle.std.proofs.Common.{◌≡◌, ◌≢◌, ◌⊎◌, ◌-◌, ℕ, List, [], ◌∷◌, ◌++◌, length, Bool, true, false, cond, not, is_some, Option, Some, None, Result, Ok, Err, refl, sym, ap, inl, inr, append-nil}
use Rattle.std.proofs.lemmas.Bool.{false≢true, or_cases, or_left, or_right}
use Rattle.std.proofs.lemmas.List.{take-append-drop}
use Rattle.std.specs.Option.{option_map_or, option_or}
use Rattle.item_model.specs.declared.changes.Edit.{Edit}
use Rattle.item_model.specs.declared.changes.Entry.{Entry}
use Rattle.records_import.specs.declared.refusal.RecordError.{RecordError}
use Rattle.fault_lines.specs.Records.{records_line}
use Rattle.share_asks.specs.declared.ask.Role.{Role}
use Rattle.share_asks.specs.declared.ask.Role.TheVariants as role
use Rattle.share_asks.specs.declared.ask.Want.{Want}
use Rattle.share_asks.specs.declared.ask.Want.TheVariants as want
use Rattle.share_history.specs.LastSaid.{only_if}
use Rattle.share_history.specs.Limits.{takes_batch}
use Rattle.share_history.specs.Sessions.{is_stop, is_stopped}
use Rattle.share_replies.specs.Added.{adds, made_by}
use Rattle.share_replies.specs.Replies.{Answer, Body, Holds, Line, Nothing, Replies, Reply, answer_to, refusal, reply_with, success}
use Rattle.share_replies.specs.Settings.{Settings}
use Rattle.share_server.specs.Served.{added_part, answered_on}
use Rattle.edit_meetings.proofs.PushBack.{edit_want, stop_want}

-- ---- what a reply says

status_in : Answer → ℕ
status_in (Replies reply) = reply.status
status_in Holds = 0

body_in : Answer → Body
body_in (Replies reply) = reply.body
body_in Holds = Nothing

is_body : (h : List Entry) (w : Want) (told : ℕ × Body) (reply : Reply) → reply_with h w told ≡ Replies reply → reply.body ≡ told.1
unfolding body_in
is_body h w told reply is = sym (ap body_in is)

is_status : (h : List Entry) (w : Want) (told : ℕ × Body) (reply : Reply) → reply_with h w told ≡ Replies reply → reply.status ≡ told.0
unfolding status_in
is_status h w told reply is = sym (ap status_in is)

-- a refusal that applies, or the next one
by_test : (h : List Entry) (w : Want) (b : Bool) (told : ℕ × Body) (others : Option (ℕ × Body)) (rest : Answer) (reply : Reply)
    → option_map_or (reply_with h w) (option_or (only_if b told) others) rest ≡ Replies reply
    → ((b ≡ true) × (reply.status ≡ told.0)) ⊎ (option_map_or (reply_with h w) others rest ≡ Replies reply)
by_test h w true told others rest reply is = inl (refl, is_status h w told reply is)
by_test h w false told others rest reply is = inr is

-- ---- of an edit and of a stop

abbrev pub SaysOfEdit : List Entry → Role → Result (List Edit) RecordError → Reply → Type 0
SaysOfEdit p role.Listen read reply = reply.status ≡ 404
SaysOfEdit p role.Edit (Err error) reply = (reply.status ≡ 400) × (reply.body ≡ Line (records_line error))
SaysOfEdit p role.Edit (Ok []) reply = reply.status ≡ 204
SaysOfEdit p role.Edit (Ok (e ∷ es)) reply = ((takes_batch p (e ∷ es) ≡ false) × (reply.status ≡ 507)) ⊎ (reply.status ≡ 200)

not_true : (b : Bool) → not b ≡ true → b ≡ false
not_true true h = sym h
not_true false h = refl

-- the share's reply to an edit, by the history that it is answered on
pub edit_says : (s : Settings) (p : List Entry) (r : Role) (read : Result (List Edit) RecordError) (reply : Reply) → answer_to s p (edit_want r read) ≡ Replies reply
    → ((is_stopped p ≡ true) × (reply.status ≡ 503)) ⊎ SaysOfEdit p r read reply
edit_says s p role.Listen read reply is =
    let w : Want = edit_want role.Listen read in
    elim (by_test p w (is_stopped p) (503, Nothing) (Some (404, Nothing)) (reply_with p w (success s p w)) reply is) [
      | inl stopped ↦ inl stopped
      | inr next ↦ inr (is_status p w (404, Nothing) reply next)
    ]
edit_says s p role.Edit (Err error) reply is =
    let w : Want = want.Edit (Err error) in
    elim (by_test p w (is_stopped p) (503, Nothing) (Some (400, Line (records_line error))) (reply_with p w (success s p w)) reply is) [
      | inl stopped ↦ inl stopped
      | inr next ↦ inr (is_status p w (400, Line (records_line error)) reply next, is_body p w (400, Line (records_line error)) reply next)
    ]
edit_says s p role.Edit (Ok []) reply is =
    let w : Want = want.Edit (Ok []) in
    elim (by_test p w (is_stopped p) (503, Nothing) None (reply_with p w (success s p w)) reply is) [
      | inl stopped ↦ inl stopped
      | inr next ↦ inr (is_status p w (204, Nothing) reply next)
    ]
edit_says s p role.Edit (Ok (e ∷ es)) reply is =
    let w : Want = want.Edit (Ok (e ∷ es)) in
    let full : Bool = not (takes_batch p (e ∷ es)) in
    let rest : Answer = reply_with p w (success s p w) in
    elim (by_test p w (is_stopped p) (503, Nothing) (option_or (only_if (not (takes_batch p (e ∷ es))) (507, Nothing)) None) rest reply is) [
      | inl stopped ↦ inl stopped
      | inr next ↦ elim (by_test p w (not (takes_batch p (e ∷ es))) (507, Nothing) None rest reply next) [
        | inl more ↦ inr (inl (not_true (takes_batch p (e ∷ es)) more.0, more.1))
        | inr last ↦ inr (inr (is_status p w (success s p w) reply last))
      ]
    ]

abbrev pub SaysOfStop : Role → ℕ → Type 0
SaysOfStop role.Listen status = status ≡ 404
SaysOfStop role.Edit status = status ≡ 204

pub stop_says : (s : Settings) (p : List Entry) (r : Role) (reply : Reply) → answer_to s p (stop_want r) ≡ Replies reply
    → ((is_stopped p ≡ true) × (reply.status ≡ 503)) ⊎ SaysOfStop r reply.status
stop_says s p role.Listen reply is =
    let w : Want = stop_want role.Listen in
    elim (by_test p w (is_stopped p) (503, Nothing) (Some (404, Nothing)) (reply_with p w (success s p w)) reply is) [
      | inl stopped ↦ inl stopped
      | inr next ↦ inr (is_status p w (404, Nothing) reply next)
    ]
stop_says s p role.Edit reply is =
    let w : Want = want.Stop in
    elim (by_test p w (is_stopped p) (503, Nothing) None (reply_with p w (success s p w)) reply is) [
      | inl stopped ↦ inl stopped
      | inr next ↦ inr (is_status p w (204, Nothing) reply next)
    ]

-- ---- what a refusal adds

abbrev pub nothing : Option Entry
nothing = None

pub never : (b : Bool) → is_some (cond b nothing None) ≡ false
never true = refl
never false = refl

-- if no refusal applies, the success is the reply
by_refusal : (h : List Entry) (w : Want) (found : Option (ℕ × Body)) (told : ℕ × Body) (made : Option Entry) (reply : Reply)
    → option_map_or (reply_with h w) found (reply_with h w told) ≡ Replies reply → reply.status ≢ told.0 → is_some (cond (is_some found) nothing made) ≡ false
by_refusal h w (Some refused) told made reply is other = refl
by_refusal h w None told made reply is other = absurd (other (is_status h w told reply is))

-- an edit or a stop that is not a success adds nothing
pub edit_quiet : (s : Settings) (by : ℕ) (p : List Entry) (r : Role) (read : Result (List Edit) RecordError) (reply : Reply) → answer_to s p (edit_want r read) ≡ Replies reply
    → reply.status ≢ 200 → is_some (adds p by (edit_want r read)) ≡ false
edit_quiet s by p role.Listen read reply is other = never (is_some (refusal p (edit_want role.Listen read)))
edit_quiet s by p role.Edit (Err error) reply is other = never (is_some (refusal p (want.Edit (Err error))))
edit_quiet s by p role.Edit (Ok []) reply is other = never (is_some (refusal p (want.Edit (Ok []))))
edit_quiet s by p role.Edit (Ok (e ∷ es)) reply is other =
    let w : Want = want.Edit (Ok (e ∷ es)) in
    by_refusal p w (refusal p w) (success s p w) (made_by by p w) reply is other

pub stop_quiet : (s : Settings) (by : ℕ) (p : List Entry) (r : Role) (reply : Reply) → answer_to s p (stop_want r) ≡ Replies reply
    → reply.status ≢ 204 → is_some (adds p by (stop_want r)) ≡ false
stop_quiet s by p role.Listen reply is other = never (is_some (refusal p (stop_want role.Listen)))
stop_quiet s by p role.Edit reply is other = by_refusal p want.Stop (refusal p want.Stop) (success s p want.Stop) (made_by by p want.Stop) reply is other

-- ---- of the whole history

-- an answer is of a first part of the history at its length
pub answered_front : (added : Bool) (p : List Entry) → p ≡ answered_on added p ++ added_part added p
answered_front true p = sym (take-append-drop (length p - 1) p)
answered_front false p = sym (append-nil p)

-- a share that is stopped stays so
pub stopped_on : (p later : List Entry) → is_stopped p ≡ true → is_stopped (p ++ later) ≡ true
stopped_on [] later h = absurd (false≢true h)
stopped_on (e ∷ p) later h =
    elim (or_cases (is_stop e) (is_stopped p) h) [
      | inl here ↦ or_left _ _ here
      | inr behind ↦ or_right _ _ (stopped_on p later behind)
    ]
