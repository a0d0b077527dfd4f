-- A share of a rehearsal, and a mirror that may request from it.
use Rattle.std.specs.Prelude.{◌≡◌, ◌≤◌, ◌<◌, ◌^◌, List, length}
use Rattle.item_model.specs.declared.changes.Edit.{Edit}
use Rattle.item_model.specs.declared.request.Meta.TheVariants.{Default}
use Rattle.item_model.specs.declared.request.Target.TheVariants.{Items}
use Rattle.item_store.specs.Store.{Store}
use Rattle.item_store.specs.Stands.{StandsFor}
use Rattle.listing_plan.specs.Limits.{rows_limit}
use Rattle.mirror_core.specs.Mirrored.{Mirrored}
use Rattle.share_history.specs.Histories.{edits, revision}
use Rattle.rehearsal.specs.Made.{AreMade}

-- the store represents batches of generated edits, within its limits
pub record IsShare (bs : List (List Edit)) (store : Store) : Type 0 where
  pub stands : StandsFor bs store
  pub made : AreMade (edits bs)
  pub few : length (edits bs) ≤ rows_limit
  pub early : revision bs < 2 ^ 32

-- the mirror is one of items, and holds no later revision
pub record MayAsk (bs : List (List Edit)) (mirror : Mirrored) : Type 0 where
  pub target : mirror.target ≡ Items
  pub meta : mirror.meta ≡ Default
  pub base : mirror.held.revision ≤ revision bs
