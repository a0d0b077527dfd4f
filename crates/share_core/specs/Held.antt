-- Which history the stores of a share represent, and the other invariants of a share.
use Rattle.std.specs.Prelude.{◌≡◌, ◌≤◌, ℕ, List, Some, length}
use Rattle.item_model.specs.declared.item.Row.{Row}
use Rattle.item_model.specs.declared.changes.Edit.{Edit}
use Rattle.item_model.specs.declared.changes.Entry.{Entry}
use Rattle.item_model.specs.Limits.{text_limit}
use Rattle.share_history.specs.Histories.{batches, edits, all_edits}
use Rattle.share_history.specs.LastSaid.{item_at}
use Rattle.share_history.specs.Numbers.{most_edits, most_lists}
use Rattle.share_history.specs.Rows as rows
use Rattle.share_history.specs.Whole.{IsWhole}
use Rattle.item_store.specs.Stands as item_store
use Rattle.playlist_store.specs.Stands as playlist_store
use Rattle.prop_index.specs.Index as prop_index
use Rattle.share_replies.specs.Settings.{Settings}
use Rattle.share_core.specs.Short.{HasShortTexts}
use Rattle.share_core.specs.declared.stores.Stores.{Stores}

pub record StandFor (bs : List (List Edit)) (stores : Stores) : Type 0 where
  pub items : item_store.StandsFor bs stores.items
  pub lists : playlist_store.StandsFor bs stores.lists
  pub index : prop_index.StandsFor (rows.library (edits bs)) stores.index
  -- the type of an item bounds its texts
  pub short : (id : ℕ) (row : Row) → item_at (edits bs) id ≡ Some row → HasShortTexts row

-- The stores represent the history `h`, which keeps the limits of edits and lists.
pub record AreHeld (h : List Entry) (stores : Stores) : Type 0 where
  pub stand : StandFor (batches h) stores
  pub few_edits : length (all_edits h) ≤ most_edits
  pub few_lists : length (rows.lists (all_edits h)) ≤ most_lists

-- The invariant of a share.
pub record IsSound (settings : Settings) (h : List Entry) (stores : Stores) : Type 0 where
  pub held : AreHeld h stores
  pub whole : IsWhole h
  pub items_keep : stores.items.keep ≡ settings.keep
  pub lists_keep : stores.lists.keep ≡ settings.keep
  pub short_name : length settings.name ≤ text_limit
