-- What is written for a request that was served, and in which turns; or that its edit was added and lost.
use Rattle.std.specs.Prelude.{◌≡◌, List, [], ◌∷◌, ◌++◌, length, Bool, true, false, Option, Some, None, Result, Ok, Err, ℕ}
use Rattle.std.specs.declared.alloc.AllocError.{AllocError}
use Rattle.outside_net.specs.Counts.{Rose}
use Rattle.item_model.specs.declared.changes.Edit.{Edit}
use Rattle.item_model.specs.declared.changes.Entry.{Entry}
use Rattle.http_front.specs.ReplyHeads.{HasReason}
use Rattle.listing_plan.specs.Plans.{IsWritable, plan_bytes}
use Rattle.reply_bytes.specs.ReplyBytes.{with_head}
use Rattle.share_asks.specs.declared.ask.Ask.{Ask}
use Rattle.share_asks.specs.declared.ask.Want.{Want}
use Rattle.share_asks.specs.declared.ask.Want.TheVariants as want
use Rattle.share_history.specs.Histories.{batches, revision}
use Rattle.share_history.specs.Sessions.{is_stopped}
use Rattle.share_lock.specs.Histories.{Continues}
use Rattle.share_lock.specs.Known.{numbers_of}
use Rattle.share_core.specs.declared.answer.Answer.{Answer}
use Rattle.share_core.specs.declared.answer.Answer.TheVariants as answer
use Rattle.share_core.specs.declared.answer.Reply.{Reply}
use Rattle.share_core.specs.declared.answer.ReplyContent.{ReplyContent}
use Rattle.share_core.specs.Wants.{is_free}
use Rattle.share_replies.specs.Added.{adds}
use Rattle.share_replies.specs.Answers.{Shared}
use Rattle.share_replies.specs.Laws.{maker}
use Rattle.share_replies.specs.Settings.{Settings}
use Rattle.share_server.specs.declared.report.Served.{Served}
use Rattle.share_server.specs.Served.{at_point}
use Rattle.share_server.specs.Replies.{served_bytes}
use Rattle.share_server.specs.Passes.{Pass, Serves}
use Rattle.share_server.specs.Losses.{ServesBut, Unacknowledged}
use Rattle.share_server.specs.declared.turns.outcome.Answered.{Answered}
use Rattle.share_server.specs.declared.turns.outcome.Unanswered.{Unanswered}
use Rattle.share_server.specs.declared.turns.outcome.Unanswered.TheVariants.{Gone, Lost}
use Rattle.share_server.specs.declared.turns.outcome.TurnOutcome.{TurnOutcome}
use Rattle.share_server.specs.declared.turns.outcome.TurnOutcome.TheVariants as outcome

-- If allocating the answer failed, the status is 500. Otherwise the answer can be written, and its bytes are those of
-- the request on the history `p`.
abbrev pub Says : Settings → List Entry → Ask → Served → Option ReplyContent → Type 0
Says settings p ask s None = s.status ≡ 500
Says settings p ask s (Some said) =
    HasReason said.status × IsWritable said.plan
    × ((last : Bool) → with_head said.status said.form (plan_bytes said.plan) last ≡ served_bytes settings p ask s last)

-- The handle served the request, in the last of its turns.
pub record IsAnswered (k k' : Pass) (ask : Ask) (a : Answered) : Type 0 where
  pub serves : Serves k k' (ask ∷ []) (a.served ∷ [])
  pub latest : a.served.point ≡ length k'.seen
  pub stopped : a.stopped ≡ is_stopped (at_point k'.seen a.served)
  pub revised : a.revision ≡ revision (batches (at_point k'.seen a.served))
  -- a logout and the stop do not allocate
  pub free : is_free ask.want ≡ true → a.served.status ≡ 500 → is_stopped k'.seen ≡ true
  pub said : Says k.settings (at_point k'.seen a.served) ask a.served a.said

-- The edit of the request was added and lost, and nothing was served.
pub record IsLost (k k' : Pass) (ask : Ask) : Type 0 where
  pub batch : List Edit
  pub asks_it : ask.want ≡ want.Edit (Ok batch)
  pub lost : List Entry
  pub serves : ServesBut k k' [] [] lost
  pub made : Unacknowledged k k' [] batch lost

-- The request was served. Or nothing was: its peer left while it was pending, or its edit was lost.
abbrev pub IsOutcome : Pass → Pass → Ask → Result Answered Unanswered → Type 0
IsOutcome k k' ask (Ok a) = IsAnswered k k' ask a
IsOutcome k k' ask (Err Gone) = Serves k k' [] []
IsOutcome k k' ask (Err Lost) = IsLost k k' ask

abbrev pub loses : Result Answered Unanswered → Bool
loses (Ok a) = false
loses (Err Gone) = false
loses (Err Lost) = true

-- The connection's error counter increased exactly if its peer left.
abbrev pub CountsOutcome : ℕ → ℕ → Result Answered Unanswered → Type 0
CountsOutcome before now (Ok a) = now ≡ before
CountsOutcome before now (Err Gone) = Rose before now
CountsOutcome before now (Err Lost) = now ≡ before

-- In one turn the handle served the request, or nothing, or lost its edit.
abbrev pub IsTurnOutcome : Pass → Pass → Ask → TurnOutcome → Type 0
IsTurnOutcome k k' ask (outcome.Answered a) = IsAnswered k k' ask a
IsTurnOutcome k k' ask (outcome.Held point) = Serves k k' [] [] × (point ≡ length k'.seen)
IsTurnOutcome k k' ask (outcome.Lost point) = IsLost k k' ask

abbrev pub loses_in : TurnOutcome → Bool
loses_in (outcome.Answered a) = false
loses_in (outcome.Held point) = false
loses_in (outcome.Lost point) = true

-- Whether the answer added an entry.
abbrev pub has_added : TurnOutcome → Bool
has_added (outcome.Answered a) = a.served.added
has_added (outcome.Held point) = false
has_added (outcome.Lost point) = false

-- The operation added one entry to the history, or left it as it was.
abbrev pub HasAdded : Bool → List Entry → ℕ → Want → List Entry → Type 0
HasAdded false h by want h' = h' ≡ h
HasAdded true h by want h' = (e : Entry) × (adds h by want ≡ Some e) × (h' ≡ h ++ e ∷ [])

-- A share that a turn of the handle finds.
pub record Finds (k : Pass) (share : Shared) : Type 0 where
  pub settings : share.settings ≡ k.settings
  pub history : Continues maker (numbers_of k) k.seen share.history

-- The report of a reply, or of an answer that failed to allocate at the end of the history.
abbrev pub served_of : Reply → Served
served_of r = record { session = r.session; seen = r.seen; point = r.point; status = r.content.status; added = r.added }

abbrev pub given_up : ℕ → Served
given_up point = record { session = 0; seen = 0; point = point; status = 500; added = false }

abbrev pub turn_outcome : Result Answer AllocError → Bool → ℕ → ℕ → TurnOutcome
turn_outcome (Ok (answer.Reply r)) stopped revision end = outcome.Answered (record { served = served_of r; said = Some r.content; stopped = stopped; revision = revision })
turn_outcome (Ok (answer.Wait now point)) stopped revision end = outcome.Held point
turn_outcome (Err error) stopped revision end = outcome.Answered (record { served = given_up end; said = None; stopped = stopped; revision = revision })
