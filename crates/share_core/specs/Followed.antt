-- The stores of a share while they apply a batch: the items are one batch ahead of the lists and the index.
use Rattle.std.specs.Prelude.{◌≡◌, ℕ, List, [], ◌∷◌, ◌++◌, Option, Some, map}
use Rattle.item_model.specs.declared.item.Row.{Row}
use Rattle.item_model.specs.declared.changes.Edit.{Edit}
use Rattle.share_history.specs.Histories.{edits}
use Rattle.share_history.specs.Keyed.{ascending}
use Rattle.share_history.specs.LastSaid.{item_at}
use Rattle.share_history.specs.Rows as rows
use Rattle.item_store.specs.Stands as item_store
use Rattle.playlist_store.specs.Stands as playlist_store
use Rattle.prop_index.specs.Index as prop_index
use Rattle.share_core.specs.Short.{HasShortTexts}
use Rattle.share_core.specs.declared.stores.Stores.{Stores}

-- The lists and the index represent the batches `bs`.
pub record IsAsBefore (bs : List (List Edit)) (stores : Stores) : Type 0 where
  pub lists : playlist_store.StandsFor bs stores.lists
  pub index : prop_index.StandsFor (rows.library (edits bs)) stores.index

-- The items also represent `batch`. `before` are the rows that they had before it.
pub record CanFollow (bs : List (List Edit)) (batch : List Edit) (before : List (ℕ × Option Row)) (stores : Stores) : Type 0 where
  pub items : item_store.StandsFor (bs ++ batch ∷ []) stores.items
  pub others : IsAsBefore bs stores
  pub were : before ≡ map (λ id. (id, item_at (edits bs) id)) (ascending (item_store.named_items batch))
  pub short : (id : ℕ) (row : Row) → item_at (edits bs) id ≡ Some row → HasShortTexts row
