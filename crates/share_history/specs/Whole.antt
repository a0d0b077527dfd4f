-- Histories as a share has them: values that a program can hold, within all limits.
use Rattle.std.specs.Prelude.{◌≡◌, ◌≤◌, List, true, length, count_by}
use Rattle.std.specs.List.{AllByRecursion}
use Rattle.item_model.specs.declared.changes.Edit.{Edit}
use Rattle.item_model.specs.declared.changes.Edit.TheVariants.{PutItem, DropItem, PutList, PutRule, DropList, PutMember, DropMember}
use Rattle.item_model.specs.declared.changes.Entry.{Entry}
use Rattle.item_model.specs.declared.item.Row.{Row}
use Rattle.item_model.specs.Items.{AreTexts, is_item}
use Rattle.item_model.specs.Valid.{is_valid}
use Rattle.share_history.specs.Histories.{all_edits}
use Rattle.share_history.specs.Limits.{is_limited}
use Rattle.share_history.specs.Numbers.{most_edits, most_entries}

-- an item has each property once, with a value of its kind, and its texts are UTF-8
pub record IsWholeRow (row : Row) : Type 0 where
  pub item : is_item row.item ≡ true
  pub texts : AreTexts row.item

abbrev pub PutsWhole : Edit → Type 0
PutsWhole (PutItem row) = IsWholeRow row
PutsWhole (DropItem id) = Unit {0}
PutsWhole (PutList list name) = Unit {0}
PutsWhole (PutRule list name rule) = Unit {0}
PutsWhole (DropList list) = Unit {0}
PutsWhole (PutMember list member item) = Unit {0}
PutsWhole (DropMember list member) = Unit {0}

abbrev pub AreWhole : List Edit → Type 0
AreWhole edits = AllByRecursion (λ e. (is_valid e ≡ true) × PutsWhole e) edits

pub record IsWhole (h : List Entry) : Type 0 where
  pub edits : AreWhole (all_edits h)
  pub few_edits : length (all_edits h) ≤ most_edits
  pub few_entries : count_by is_limited h ≤ most_entries
