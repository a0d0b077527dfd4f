-- What a store of items keeps: under each id the rows that it had, and which ids the last batches named.
use Rattle.std.specs.Prelude.{ℕ, List, Bool}
use Rattle.item_model.specs.declared.item.Row.{Row}
use Rattle.key_versions.specs.Held.{Held}

pub record Store : Type 0 where
  -- how many revisions the window has before the present one
  pub keep : ℕ
  pub revision : ℕ
  -- the least revision that the rows and the named ids reach back to
  pub low : ℕ
  pub can_undo : Bool
  -- how many items there are, and were before the last batch
  pub count : ℕ
  pub count_before : ℕ
  -- the ids that each batch after `low` names, in order
  pub named : List (List ℕ)
  -- the rows of each id, the newest first, each with the revision that it came with
  pub versions : Held Row
  -- the rows of all items by their ids, and what they were before the last batch
  pub present : List (ℕ × Row)
  pub before : List (ℕ × Row)
