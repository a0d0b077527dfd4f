-- A share that was opened with a batch: its history, and stores that represent it.
use Rattle.std.specs.Prelude.{◌≡◌, List}
use Rattle.item_model.specs.declared.changes.Edit.{Edit}
use Rattle.share_history.specs.Histories.{opening, batches}
use Rattle.item_store.specs.Stands as items_stand
use Rattle.playlist_store.specs.Stands as lists_stand
use Rattle.share_commands.specs.declared.opening.Opened.{Opened}

pub record HasOpened (edits : List Edit) (opened : Opened) : Type 0 where
  pub history : opened.history ≡ opening edits
  pub items : items_stand.StandsFor (batches (opening edits)) opened.items
  pub lists : lists_stand.StandsFor (batches (opening edits)) opened.lists
  pub keep : opened.lists.keep ≡ opened.items.keep
