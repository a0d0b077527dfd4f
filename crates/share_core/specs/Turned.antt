-- The change of an item by edits, as an index applies it.
use Rattle.std.specs.Prelude.{ℕ, List, Option, IfSome}
use Rattle.item_model.specs.declared.item.Row.{Row}
use Rattle.item_model.specs.declared.changes.Edit.{Edit}
use Rattle.share_history.specs.LastSaid.{item_at}
use Rattle.prop_index.specs.declared.changes.Change.{Change}
use Rattle.share_core.specs.Short.{HasShortTexts}

-- The item had the row `before.1`, if any, and gets the row that the edits `es` leave.
abbrev pub change_to : List Edit → ℕ × Option Row → Change
change_to es before = record { old = before.1; new = item_at es before.0 }

abbrev pub IsShortChange : Change → Type 0
IsShortChange change = IfSome change.new HasShortTexts
