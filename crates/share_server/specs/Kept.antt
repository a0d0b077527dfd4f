-- What a keeper of edits did while a handle made entries: it keeps the edits of each entry in order, except a last
-- one that it lost.
use Rattle.std.specs.Prelude.{◌≡◌, ◌≢◌, ℕ, List, [], ◌++◌, Bool, true, false, MatchBool, Option, Some, None, Ok}
use Rattle.outside_net.specs.Counts.{Rose}
use Rattle.edit_keeping.specs.declared.keeps.Keeps as keeper
use Rattle.item_model.specs.declared.changes.Edit.{Edit}
use Rattle.item_model.specs.declared.changes.Entry.{Entry}
use Rattle.share_asks.specs.declared.ask.Want.{Want}
use Rattle.share_asks.specs.declared.ask.Want.TheVariants as want
use Rattle.share_history.specs.Histories.{batches}
use Rattle.share_lock.specs.Histories.{entries_of}
use Rattle.share_replies.specs.Laws.{maker}
use Rattle.share_server.specs.Passes.{Pass}
use Rattle.share_server.specs.Losses.{edit_and_stop}

-- The edits that an operation brings.
abbrev pub edits_wanted : Want → List Edit
edits_wanted (want.Edit (Ok batch)) = batch
edits_wanted other = []

-- What was made ready for a batch: nothing if the batch has no edits.
abbrev pub IsReadyFor : {R : Type 0} → (R → List Edit → Type 0) → List Edit → Option R → Type 0
IsReadyFor is_for batch None = batch ≡ []
IsReadyFor is_for batch (Some ready) = (batch ≢ []) × is_for ready batch

-- The entries that no reported request added: none, or an edit and the stop after it.
abbrev pub IsUnheard : Bool → ℕ → List Entry → Type 0
IsUnheard false number lost = lost ≡ []
IsUnheard true number lost = (batch : List Edit) × (lost ≡ edit_and_stop number batch)

-- A keeper before and after the handle made entries. It keeps all their batches after those it kept before. It lost
-- one exactly if its error counter increased.
pub record Keeping (keeps keeps' : List (List Edit) → Type 0) (is_lost' : Bool) (faults faults' : ℕ) (k k' : Pass) (loses : Bool) : Type 0 where
  pub number : k'.number ≡ k.number
  pub made : List Entry
  pub lost : List Entry
  pub unheard : IsUnheard loses k.number lost
  pub own : entries_of maker k.number k'.seen ≡ entries_of maker k.number k.seen ++ (made ++ lost)
  pub kept : (bs : List (List Edit)) → keeps bs → keeps' (bs ++ batches made)
  pub is_lost : is_lost' ≡ loses
  pub counts : MatchBool loses (Rose faults faults') (faults' ≡ faults)

-- The same, by the keeper.
abbrev pub KeepsEdits : {F R : Type 0} → keeper.Ghosts F R → (old new : F) (k k' : Pass) (loses : Bool) → Type 0
KeepsEdits g old new k k' loses = Keeping (g.keeps old) (g.keeps new) (g.is_lost new) (g.faults old) (g.faults new) k k' loses
