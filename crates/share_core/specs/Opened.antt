-- A share that is opened with batches: the history that it begins with, and how many lists each batch leaves.
use Rattle.std.specs.Prelude.{ℕ, ◌≤◌, ◌<◌, List, [], ◌∷◌, length, map, take}
use Rattle.item_model.specs.declared.changes.Edit.{Edit}
use Rattle.item_model.specs.declared.changes.Entry.{Entry}
use Rattle.item_model.specs.declared.changes.Entry.TheVariants.{Edits}
use Rattle.share_history.specs.Histories.{edits}
use Rattle.share_history.specs.Numbers.{most_lists}
use Rattle.share_history.specs.Rows.{lists}

-- An entry of handle 0 for each batch.
abbrev pub opened_with : List (List Edit) → List Entry
opened_with bs = map (λ batch. Edits 0 batch) bs

-- The batch, if it has edits.
abbrev pub if_filled : List Edit → List (List Edit)
if_filled [] = []
if_filled (e ∷ es) = (e ∷ es) ∷ []

-- Each batch leaves at most 1,024 lists.
abbrev pub LeaveFewLists : List (List Edit) → Type 0
LeaveFewLists bs = (n : ℕ) → length (lists (edits (take n bs))) ≤ most_lists

-- Some batch leaves more.
abbrev pub LeaveManyLists : List (List Edit) → Type 0
LeaveManyLists bs = (n : ℕ) × (most_lists < length (lists (edits (take n bs))))
