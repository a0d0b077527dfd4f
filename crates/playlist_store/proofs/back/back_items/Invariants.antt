use Rattle.std.proofs.Common.{◌≡◌, ◌≤◌, ◌<◌, ◌-◌, ◌^◌, ℕ}
use Rattle.key_versions.specs.Held.{at, behind}
use Rattle.playlist_store.specs.Changes.{InPlace, ReturnsItems}
use Rattle.playlist_store.proofs.back.back_items.Given as goal

abbrev pub invariant-loop-id : goal.invariant-loop-id
invariant-loop-id l = record {
  passed : 1 ≤ l.revision → (c : ℕ) → c < behind l.last → InPlace (ReturnsItems l.revision l.items) (at c l.fn.lists.entries) (at c l.lists.entries);
  rest : 1 ≤ l.revision → (c : ℕ) → behind l.last ≤ c → at c l.lists.entries ≡ at c l.fn.lists.entries;
}

abbrev pub decreases-loop-id : goal.decreases-loop-id
decreases-loop-id l = 2 ^ 32 - behind l.last
