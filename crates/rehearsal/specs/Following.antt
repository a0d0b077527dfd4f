-- What a mirror holds after some of the batches, if it requested after those with given numbers.
use Rattle.std.specs.Prelude.{◌≡◌, ◌≤◌, ℕ, ◌+◌, List, [], Option, take, fold}
use Rattle.item_model.specs.declared.changes.Edit.{Edit}
use Rattle.item_model.specs.declared.query.Query.{Query}
use Rattle.item_model.specs.declared.request.Meta.TheVariants.{Default}
use Rattle.item_model.specs.declared.request.Target.TheVariants.{Items}
use Rattle.item_store.specs.Store.{Store}
use Rattle.share_history.specs.Mirror.{Held, mirrored}
use Rattle.rehearsal.specs.declared.follower.RehearsedMirror.{RehearsedMirror}
use Rattle.rehearsal.specs.declared.plan.Rehearsal.{Rehearsal}
use Rattle.rehearsal.specs.Asks.{asks, deltas, fulls}
use Rattle.rehearsal.specs.Plan.{batches_of}
use Rattle.rehearsal.specs.Shares.{IsShare}

abbrev pub nothing_held : Held
nothing_held = record { revision = 0; rows = [] }

-- what it should hold after the last request
abbrev pub held_after : List (List Edit) → Option Query → List ℕ → Held
held_after bs query ns = fold (λ _ n. mirrored (take n bs) Items query Default) nothing_held ns

-- the store is that of the plan's share after `count` batches
pub record IsAt (plan : Rehearsal) (count : ℕ) (store : Store) : Type 0 where
  pub share : IsShare (take count (batches_of plan)) store
  pub keep : store.keep ≡ plan.keep

-- a mirror of items that made its requests up to batch `count`, with their counts
pub record Follows (plan : Rehearsal) (count : ℕ) (f : RehearsedMirror) : Type 0 where
  pub period : 1 ≤ f.period
  pub target : f.mirror.target ≡ Items
  pub meta : f.mirror.meta ≡ Default
  pub held : f.mirror.held ≡ held_after (batches_of plan) f.mirror.query (asks f.period plan.batches count)
  pub delta : f.delta ≡ deltas plan.keep (batches_of plan) (asks f.period plan.batches count)
  pub full : f.full ≡ fulls plan.keep (batches_of plan) (asks f.period plan.batches count)
  pub few : f.full + f.delta ≤ count

-- which of the mirrors it is: its period and its query
pub record IsMirror (often : ℕ) (asked : Option Query) (f : RehearsedMirror) : Type 0 where
  pub period : f.period ≡ often
  pub query : f.mirror.query ≡ asked
