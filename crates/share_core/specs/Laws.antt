-- What an answer leaves of a share, whatever the request: the same settings, and the history with at most entries of
-- the handle that asked appended. A whole history stays whole.
use Rattle.std.specs.Prelude.{◌≡◌, ⊤, ℕ, List, [], ◌∷◌, ◌++◌, Some, Ok, All}
use Rattle.item_model.specs.declared.changes.Entry.{Entry}
use Rattle.share_asks.specs.declared.ask.Want.{Want}
use Rattle.share_asks.specs.declared.ask.Want.TheVariants.{Edit as Change}
use Rattle.share_history.specs.Whole.{AreWhole, IsWhole}
use Rattle.share_replies.specs.Added.{adds}
use Rattle.share_replies.specs.Answers.{Shared}
use Rattle.share_replies.specs.Laws.{maker}
use Rattle.share_core.specs.declared.answer.Answer.{Answer}
use Rattle.share_core.specs.Told.{IsAnswer}

abbrev pub Grows : Shared → ℕ → Shared → Type 0
Grows old by new = (new.settings ≡ old.settings) × (more : List Entry) × (new.history ≡ old.history ++ more) × All (λ e. maker e ≡ by) more

abbrev pub AnswersGrow : Type 0
AnswersGrow = (old new : Shared) (by : ℕ) (want : Want) (answer : Answer) → IsAnswer old new by want answer → Grows old by new

-- If the operation has a batch, the batch is whole.
abbrev pub BringsWhole : Want → Type 0
BringsWhole (Change (Ok batch)) = AreWhole batch
BringsWhole want = ⊤

-- `e` is the entry that some operation adds to `h`.
pub record IsAdded (h : List Entry) (e : Entry) : Type 0 where
  pub by : ℕ
  pub want : Want
  pub whole : BringsWhole want
  pub added : adds h by want ≡ Some e

-- Each entry is added to the history that the earlier ones left.
abbrev pub AreAdded : List Entry → List Entry → Type 0
AreAdded h [] = ⊤
AreAdded h (e ∷ es) = IsAdded h e × AreAdded (h ++ e ∷ []) es

-- A whole history stays whole whatever clients request.
abbrev pub AnswersKeepWhole : Type 0
AnswersKeepWhole = (h later : List Entry) → IsWhole h → AreAdded h later → IsWhole (h ++ later)
