-- The file that keeps the edits of a share: what the share begins with, and what a run leaves of the file.
use Rattle.std.specs.Prelude.{◌≡◌, ℕ, List, ◌∷◌, [], ◌++◌, Bool, true, false, MatchBool, Option, Some, None}
use Rattle.item_model.specs.declared.changes.Edit.{Edit}
use Rattle.item_model.specs.declared.changes.Entry.{Entry}
use Rattle.outside_net.specs.Counts.{Rose}
use Rattle.outside_net.specs.Places.{Contents}
use Rattle.outside_net.specs.Told.{Grows}
use Rattle.edit_keeping.specs.declared.keeps.Keeps as keeper
use Rattle.share_history.specs.Histories.{batches, opening}
use Rattle.share_history.specs.Limits.{has_few_lists}
use Rattle.share_core.specs.Opened.{opened_with, if_filled}
use Rattle.share_workers.specs.Keepers.{KeepsBut}
use Rattle.kept_library.specs.Closing.{LeavesAt, LeavesOrOneMore}
use Rattle.kept_library.specs.Opening.{AreFew, StandsAt}
use Rattle.command_core.specs.Seen.{FilesSeen}

-- the entries that a share begins with: one for each batch that its file represented, if it has a file, and for the
-- batch of the input, if that has edits; they are within the limits of a share
abbrev pub IsOpening : Option (List ℕ) → Option Contents → List Edit → List Entry → Type 0
IsOpening None contents edits opened = (opened ≡ opening edits) × (has_few_lists [] edits ≡ true)
IsOpening (Some path) contents edits opened = (stood : List (List Edit)) × StandsAt contents path stood × (opened ≡ opened_with (stood ++ if_filled edits)) × AreFew (stood ++ if_filled edits)

-- The bytes under the name represent all batches; if the last edit was lost, all before it, and there may be one more.
abbrev pub LeavesBut : Bool → List ℕ → List (List Edit) → Option Contents → Option Contents → Type 0
LeavesBut false path bs before now = LeavesAt path bs before now
LeavesBut true path bs before now = (earlier : List (List Edit)) × (last : List Edit) × (bs ≡ earlier ++ last ∷ []) × LeavesOrOneMore path earlier before now

-- A file was opened, and has the batches of this history, except for a last one that was lost. The error counter of the
-- files rises exactly if one was lost.
pub record IsKept (path : List ℕ) (before after : FilesSeen) (history : List Entry) (lost : Bool) : Type 0 where
  pub asked : Grows before.asked after.asked (path ∷ [])
  pub counts : MatchBool lost (Rose before.faults after.faults) (after.faults ≡ before.faults)
  pub left : LeavesBut lost path (batches history) before.contents after.contents

-- what a share leaves of the files; without a file it leaves them unchanged, and loses no edit
abbrev pub AreKept : Option (List ℕ) → FilesSeen → FilesSeen → List Entry → Bool → Type 0
AreKept None before after history lost = (after ≡ before) × (lost ≡ false)
AreKept (Some path) before after history lost = IsKept path before after history lost

-- what a keeper keeps of a history whose opening it had, if one worker made all later edits; by what it keeps, whether it
-- has lost an edit, and its error counter
pub record HasKept (editors : ℕ) (keeps keeps' : List (List Edit) → Type 0) (is_lost' : Bool) (faults faults' : ℕ) (opened history : List Entry) (lost : Bool) : Type 0 where
  pub is_lost : is_lost' ≡ lost
  pub counts : MatchBool lost (Rose faults faults') (faults' ≡ faults)
  pub kept : editors ≡ 1 → keeps (batches opened) → KeepsBut lost keeps' (batches history)

-- .. of the keeper before and after
abbrev pub KeepsHistory : {K R : Type 0} → keeper.Ghosts K R → (editors : ℕ) → (old new : K) → (opened history : List Entry) → (lost : Bool) → Type 0
KeepsHistory g editors old new opened history lost =
    HasKept editors (g.keeps old) (g.keeps new) (g.is_lost new) (g.faults old) (g.faults new) opened history lost
