-- The next answer on a connection, and its effect.
use Rattle.std.specs.Prelude.{ℕ, ◌+◌, ◌-◌, List, [], ◌++◌, Bool, true, ◌==◌, is_some, Option, Some, None, option_map, if◌then◌else◌}
use Rattle.std.specs.Option.{option_or}
use Rattle.http_heads.specs.declared.refusal.HeadError.{HeadError}
use Rattle.item_model.specs.declared.changes.Entry.{Entry}
use Rattle.listing_plan.specs.Plans.{plan_bytes}
use Rattle.share_asks.specs.declared.ask.Ask.{Ask}
use Rattle.share_core.specs.declared.answer.ReplyContent.{ReplyContent}
use Rattle.share_history.specs.Sessions.{is_stopped}
use Rattle.share_replies.specs.Settings.{Settings}
use Rattle.share_replies.specs.Replies.{Reply, Answer, Replies, Holds, answer_to}
use Rattle.share_replies.specs.Added.{after}
use Rattle.reply_bytes.specs.ReplyBytes.{reply_bytes, refusal_bytes, status_of, with_head}
use Rattle.share_asks.specs.declared.form.BodyForm.TheVariants.{NoBody}
use Rattle.share_replay.specs.Connections.{Connection, reading_on, next_ask, end_of_input, ended_by}
use Rattle.share_replay.specs.Ends.{end_line, reply_lines}
use Rattle.share_replay.specs.declared.ends.End.{End}
use Rattle.share_replay.specs.declared.ends.End.TheVariants.{Closed, Refused, Spent, Stopped}

-- The most requests of a connection.
abbrev pub most_requests : ℕ
most_requests = 65536

-- ---- The next answer on a connection.

pub data Due : Type 0 where
  -- the reply to a request
  Answers : (ask : Ask) (reply : Reply) → Due
  -- the refusal of its bytes
  Refuses : (error : HeadError) → Due

abbrev pub due_for : Ask → Answer → Option Due
due_for ask (Replies reply) = Some (Answers ask reply)
due_for ask Holds = None

-- A refusal comes after all requests.
abbrev pub due_next : Settings → List Entry → Option Ask → Option HeadError → Option Due
due_next s h (Some ask) fault = due_for ask (answer_to s h ask.want)
due_next s h None fault = option_map Refuses fault

abbrev pub due_on : Settings → List Entry → Connection → Option Due
due_on s h c = if c.is_ended then None else due_next s h (next_ask c) (reading_on c).fault

-- ---- The effect of an answer.

pub record Turn : Type 0 where
  pub history : List Entry
  pub connection : Connection
  pub written : List ℕ

-- How the connection ends after a reply. `h` is the history after it, `served` the number of its requests answered,
-- and `close` says whether the request closes.
abbrev pub last_by : List Entry → ℕ → Bool → Option End
last_by h served close = if is_stopped h then Some Stopped else (if served == most_requests then Some Spent else (if close then Some Closed else None))

abbrev pub one_more : Connection → Connection
one_more c = record c { served = c.served + 1 }

abbrev pub turn_at_end : ℕ → List Entry → Connection → Reply → Option End → Option End → Turn
turn_at_end number h c reply last end = record {
  history = h;
  connection = ended_by end c;
  written = reply_lines number (reply_bytes reply (is_some last)) ++ end_line number end;
}

-- The reply is written, and then how the connection ends, if it ends. A closed connection ends after its last reply.
abbrev pub turn_for : ℕ → List Entry → Connection → Due → Turn
turn_for number h c (Answers ask reply) =
    let more = after h number ask.want in let left = one_more c in let last = last_by more left.served ask.close in
    turn_at_end number more left reply last (option_or last (end_of_input left))
turn_for number h c (Refuses error) = record {
  history = h;
  connection = record c { is_ended = true };
  written = reply_lines number (refusal_bytes error) ++ end_line number (Some (Refused (status_of error)));
}

-- The most answers that remain: to the requests of a connection, and a refusal.
abbrev pub left_on : Connection → ℕ
left_on c = if c.is_ended then 0 else most_requests + 1 - c.served

-- The effect of a reply with given bytes, if `h` is the history after it.
abbrev pub turn_with : ℕ → List Entry → Connection → (bytes : Bool → List ℕ) → (close : Bool) → Turn
turn_with number h c bytes close =
    let left = one_more c in let last = last_by h left.served close in let end = option_or last (end_of_input left) in
    record { history = h; connection = ended_by end left; written = reply_lines number (bytes (is_some last)) ++ end_line number end }

-- The effect of a reply with this content.
abbrev pub reply_turn : ℕ → List Entry → Connection → ReplyContent → (close : Bool) → Turn
reply_turn number h c content close =
    turn_with number h c (with_head content.status content.form (plan_bytes content.plan)) close

-- The effect of a refusal with a status.
abbrev pub refused_with : ℕ → List Entry → Connection → (status : ℕ) → Turn
refused_with number h c status = record {
  history = h;
  connection = record c { is_ended = true };
  written = reply_lines number (with_head status NoBody [] true) ++ end_line number (Some (Refused status));
}
