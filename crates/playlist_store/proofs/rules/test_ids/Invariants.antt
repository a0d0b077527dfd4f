use Rattle.std.proofs.Common.{◌≡◌, ◌≤◌, ◌<◌, ◌+◌, ℕ, List, take, false, cond, ◌&&◌}
use Rattle.std.specs.Prelude.{nat_le}
use Rattle.item_model.specs.declared.changes.Edit.{Edit}
use Rattle.item_store.specs.Stands.{StandsFor}
use Rattle.key_versions.specs.Held.{value_at, is_among}
use Rattle.share_history.specs.Histories.{edits}
use Rattle.share_history.specs.LastSaid.{item_at}
use Rattle.playlist_store.specs.Words.{ruled}
use Rattle.playlist_store.proofs.rules.test_ids.Given as goal

abbrev pub invariant-loop-id : goal.invariant-loop-id
invariant-loop-id g l = record {
  tests : (bs : List (List Edit)) → StandsFor bs l.items → (key base : ℕ)
      → value_at l.members key base ≡ cond (is_among key (take l.id-index l.ids) && nat_le l.revision base) (ruled l.rule key (item_at (edits bs) key)) (value_at l.fn.members key base);
  below : (key base : ℕ) → base < l.revision → value_at l.members key base ≡ value_at l.fn.members key base;
  others : (key base : ℕ) → is_among key l.ids ≡ false → value_at l.members key base ≡ value_at l.fn.members key base;
  cost : l.steps ≤ l.fn.steps + l.id-index;
}
