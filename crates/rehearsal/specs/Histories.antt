-- The history of a rehearsal: its batches, in order, by handle 0.
use Rattle.std.specs.Prelude.{◌≡◌, ◌≤◌, ℕ, List, map, take, length}
use Rattle.item_model.specs.declared.changes.Edit.{Edit}
use Rattle.item_model.specs.declared.changes.Entry.{Entry}
use Rattle.item_model.specs.declared.changes.Entry.TheVariants.{Edits}

abbrev pub history_of : List (List Edit) → List Entry
history_of bs = map (λ batch. Edits 0 batch) bs

-- the history has some or all of the batches, from the first on, and nothing else
pub record HasFirst (bs : List (List Edit)) (history : List Entry) : Type 0 where
  pub count : ℕ
  pub few : count ≤ length bs
  pub is : history ≡ history_of (take count bs)
