-- When a connection ends after a reply, and the bytes of its replies.
use Rattle.std.specs.Prelude.{◌≡◌, ℕ, ◌+◌, List, [], ◌∷◌, ◌++◌, Bool, ◌==◌, is_some, Option, Some, None, if◌then◌else◌}
use Rattle.item_model.specs.declared.changes.Entry.{Entry}
use Rattle.share_asks.specs.declared.ask.Ask.{Ask}
use Rattle.share_history.specs.Sessions.{is_stopped}
use Rattle.share_replies.specs.Settings.{Settings}
use Rattle.share_replies.specs.Replies.{Answer, Replies, Holds, answer_to}
use Rattle.reply_bytes.specs.ReplyBytes.{reply_bytes, failure_bytes}
use Rattle.share_server.specs.declared.report.Served.{Served}
use Rattle.share_server.specs.declared.report.LinkEnd.{LinkEnd}
use Rattle.share_server.specs.declared.report.LinkEnd.TheVariants.{Closed, Spent, Stopped}
use Rattle.share_server.specs.Served.{at_point, answered_on}

abbrev pub end_behind : (limit n : ℕ) (close stopped : Bool) → Option LinkEnd
end_behind limit n close stopped =
    if stopped then Some Stopped else if n == limit then Some Spent else if close then Some Closed else None

-- How the connection ends after the `n`-th reply, if it does, by the history at that reply.
abbrev pub due : (limit n : ℕ) → Ask → List Entry → Option LinkEnd
due limit n ask p = end_behind limit n ask.close (is_stopped p)

-- The connection stays open after each of these replies, counted from `n`.
abbrev pub GoOn : ℕ → List Entry → ℕ → List Ask → List Served → Type 0
GoOn limit h n [] [] = Unit {0}
GoOn limit h n [] (s ∷ served) = ⊥
GoOn limit h n (ask ∷ asks) [] = ⊥
GoOn limit h n (ask ∷ asks) (s ∷ served) = (due limit n ask (at_point h s) ≡ None) × GoOn limit h (n + 1) asks served

abbrev pub answer_bytes : Answer → Bool → List ℕ
answer_bytes (Replies reply) last = reply_bytes reply last
answer_bytes Holds last = []

-- What was written for a request, by the history at its length.
abbrev pub served_bytes : Settings → List Entry → Ask → Served → Bool → List ℕ
served_bytes settings p ask s last =
    if s.status == 500 then failure_bytes last else answer_bytes (answer_to settings (answered_on s.added p) ask.want) last

-- What was written for all, counted from `n`: the reply after which the connection ends says so.
abbrev pub replies_from : Settings → ℕ → List Entry → ℕ → List Ask → List Served → List ℕ
replies_from settings limit h n [] served = []
replies_from settings limit h n (ask ∷ asks) [] = []
replies_from settings limit h n (ask ∷ asks) (s ∷ served) =
    served_bytes settings (at_point h s) ask s (is_some (due limit n ask (at_point h s))) ++ replies_from settings limit h (n + 1) asks served

abbrev pub replies : Settings → ℕ → List Entry → List Ask → List Served → List ℕ
replies settings limit h asks served = replies_from settings limit h 1 asks served
