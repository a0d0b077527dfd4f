-- What an answer adds.
use Rattle.std.proofs.Common.{◌≡◌, ◌<◌, ℕ, zero, suc, List, [], ◌∷◌, ◌++◌, length, All, Option, Some, None, refl, sym, subst, append-nil, arith}
use Rattle.std.specs.Option.{option_to_list}
use Rattle.item_model.specs.declared.changes.Entry.{Entry}
use Rattle.share_asks.specs.declared.ask.Want.{Want}
use Rattle.share_replies.specs.Added.{adds}
use Rattle.share_replies.specs.Answers.{Shared, left}
use Rattle.share_replies.specs.Laws.{maker}
use Rattle.share_replies.specs.Replies as replies
use Rattle.share_replies.specs.Replies.{Replies, Holds, answer_to}
use Rattle.share_replies.proofs.ReplyFacts.{entries_are_the_askers}
use Rattle.share_core.specs.Laws.{Grows, AnswersGrow}

all_none : (by : ℕ) → All (λ e. maker e ≡ by) []
all_none by k e lt = absurd (omega (arith, lt))

all_one : (by : ℕ) (e : Entry) → maker e ≡ by → All (λ e. maker e ≡ by) (e ∷ [])
all_one by e is zero d lt = is
all_one by e is (suc k) d lt = absurd (omega (arith, lt))

all_added : (h : List Entry) (by : ℕ) (want : Want) (o : Option Entry) → adds h by want ≡ o → All (λ e. maker e ≡ by) (option_to_list o)
all_added h by want None is = all_none by
all_added h by want (Some e) is = all_one by e (entries_are_the_askers h by want e is)

left_grows : (old : Shared) (by : ℕ) (want : Want) (answer : replies.Answer) → Grows old by (left old by want answer)
left_grows old by want (Replies reply) = (refl, option_to_list (adds old.history by want), refl, all_added old.history by want (adds old.history by want) refl)
left_grows old by want Holds = (refl, [], sym (append-nil old.history), all_none by)

pub answers_grow : AnswersGrow
answers_grow old new by want answer is = subst (Grows old by) (sym is.share) (left_grows old by want (answer_to old.settings old.history want))
