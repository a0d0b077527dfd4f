use Rattle.std.proofs.Common.{◌≡◌, ◌≤◌, ◌<◌, ◌+◌, ◌-◌, ◌^◌, ℕ, List}
use Rattle.std.specs.Option.{option_map_or}
use Rattle.std.specs.List.{sum_by}
use Rattle.item_model.specs.declared.changes.Edit.{Edit}
use Rattle.item_store.specs.Stands.{StandsFor}
use Rattle.key_versions.specs.Held.{at, behind}
use Rattle.share_history.specs.Histories.{edits}
use Rattle.playlist_store.specs.Lists.{top}
use Rattle.playlist_store.specs.Changes.{InPlace, Everywhere, TestsRule, LeavesRule, ticks_in, allowed}
use Rattle.playlist_store.proofs.TickFacts.{below}
use Rattle.playlist_store.proofs.rules.test_lists.Given as goal

abbrev pub invariant-loop-id : goal.invariant-loop-id
invariant-loop-id g l = record {
  passed : (bs : List (List Edit)) → StandsFor bs l.items → (c : ℕ) → c < behind l.last → InPlace (TestsRule l.revision (edits bs) l.ids) (at c l.fn.lists.entries) (at c l.lists.entries);
  rest : (c : ℕ) → behind l.last ≤ c → at c l.lists.entries ≡ at c l.fn.lists.entries;
  leaves : Everywhere (LeavesRule l.revision l.ids) l.fn.lists.entries l.lists.entries;
  cost : (bs : List (List Edit)) (most : List (ℕ × ℕ)) → StandsFor bs l.items
      → ((c : ℕ) → option_map_or (ticks_in l.revision (edits bs) l.ids) (top l.fn.lists.entries c) 0 ≤ allowed c most)
      → l.steps ≤ l.fn.steps + sum_by (below (behind l.last)) most;
}

abbrev pub decreases-loop-id : goal.decreases-loop-id
decreases-loop-id g l = 2 ^ 32 - behind l.last
