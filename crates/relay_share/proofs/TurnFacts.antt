-- What one turn of a relay reports of an edit or a stop.
use Rattle.std.proofs.Common.{◌≡◌, ℕ, List, [], ◌∷◌, Bool, true, false, Option, Some, None, refl, subst}
use Rattle.std.specs.Prelude.{Result, Ok, Err, IfOk, OnErr, IsOk}
use Rattle.std.specs.Option.{option_map_or}
use Rattle.std.specs.declared.alloc.AllocError.{AllocError}
use Rattle.item_model.specs.declared.changes.Entry.{Entry}
use Rattle.share_asks.specs.declared.ask.Ask.{Ask}
use Rattle.share_asks.specs.declared.ask.Want.{Want}
use Rattle.share_asks.specs.declared.ask.Want.TheVariants.{Edit, Stop}
use Rattle.share_history.specs.Histories.{batches, revision}
use Rattle.share_history.specs.Sessions.{is_stopped}
use Rattle.share_lock.specs.Known.{after_turn}
use Rattle.share_replies.specs.Answers.{Shared, told, told_by}
use Rattle.share_replies.specs.Replies.{Body, Replies, refusal, reply_with, success}
use Rattle.share_core.specs.declared.answer.Answer.{Answer}
use Rattle.share_core.specs.declared.answer.Answer.TheVariants as answer
use Rattle.share_core.specs.Steps.{IsMarked}
use Rattle.share_core.specs.Told.{IsAnswer, IsTold as IsToldBy}
use Rattle.share_core.specs.Wants.{is_free}
use Rattle.share_server.specs.Answering.{Finds, IsAnswered}
use Rattle.share_server.specs.Passes.{Pass}
use Rattle.share_server.specs.declared.turns.outcome.Answered.{Answered}
use Rattle.share_server.proofs.Turning.{Asked, asked_at}
use Rattle.relay_share.specs.Asks.{is_change, told_of}
use Rattle.relay_share.specs.Turns.{IsTold}
use Rattle.relay_share.specs.declared.turns.Told.{Told}

told_as : (k k' : Pass) (ask : Ask) (a : Answered) → IsAnswered k k' ask a → IsTold k k' ask (record { served = a.served; revision = a.revision })
told_as k k' ask a is = record { serves = is.serves; latest = is.latest; revised = is.revised; free = is.free }

-- whatever was refused or granted is answered at once
not_waiting : (share : Shared) (by : ℕ) (want : Want) (now point : ℕ) (o : Option (ℕ × Body))
    → IsToldBy (told share by want (option_map_or (reply_with share.history want) o (reply_with share.history want (success share.settings share.history want)))) (answer.Wait now point)
    → ⊥
not_waiting share by want now point None is = is
not_waiting share by want now point (Some fault) is = is

-- so a change is never pending
never_waits : (share : Shared) (by : ℕ) (want : Want) (now point : ℕ) → is_change want ≡ true → IsToldBy (told_by share by want) (answer.Wait now point) → ⊥
never_waits share by (Edit (Ok batch)) now point change is = not_waiting share by (Edit (Ok batch)) now point (refusal share.history (Edit (Ok batch))) is
never_waits share by Stop now point change is = not_waiting share by Stop now point (refusal share.history Stop) is
never_waits share by want now point change is = absurd (cc)

pub told_at : (k : Pass) (old new : Shared) (by : ℕ) (ask : Ask) (result : Result Answer AllocError) (stopped : Bool) (revised end : ℕ) → k.number ≡ by → Finds k old
    → is_change ask.want ≡ true → Asked old new by ask.want result stopped revised end → IsTold k (after_turn k new.history) ask (told_of result revised end)
told_at k old new by ask (Ok (answer.Reply r)) stopped revised end own found change asked =
    told_as k (after_turn k new.history) ask _ (asked_at k old new by ask (Ok (answer.Reply r)) stopped revised end own found asked)
told_at k old new by ask (Ok (answer.Wait now point)) stopped revised end own found change asked = absurd (never_waits old by ask.want now point change asked.answered.told)
told_at k old new by ask (Err error) stopped revised end own found change asked =
    told_as k (after_turn k new.history) ask _ (asked_at k old new by ask (Err error) stopped revised end own found asked)
