-- What edits, and taking them back, change of the rows under each id.
use Rattle.std.specs.Prelude.{◌≡◌, ◌≤◌, ℕ, List, length}
use Rattle.item_model.specs.declared.item.Row.{Row}
use Rattle.item_model.specs.declared.changes.Edit.{Edit}
use Rattle.item_model.specs.Valid.{AreValid}
use Rattle.key_versions.specs.Held.{Held, value_at}
use Rattle.share_history.specs.LastSaid.{item_at}
use Rattle.share_history.specs.Rows.{library}

-- from a revision on, the rows are the items that these edits leave, and the count is how many they are
pub record AreItems (revision : ℕ) (es : List Edit) (held : Held Row) (count : ℕ) : Type 0 where
  pub valid : AreValid es
  pub rows : (id base : ℕ) → revision ≤ base → value_at held id base ≡ item_at es id
  pub counted : count ≡ length (library es)
