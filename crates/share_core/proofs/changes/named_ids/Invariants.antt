use Rattle.std.proofs.Common.{◌≡◌, drop, fold, nat_cmp}
use Rattle.std.specs.BTreeSet.{insert_key}
use Rattle.item_store.specs.Stands.{named_items}
use Rattle.share_history.specs.Keyed.{ascending}
use Rattle.share_core.proofs.changes.named_ids.Given as goal

abbrev pub invariant-loop-edit : goal.invariant-loop-edit
invariant-loop-edit l = fold (insert_key nat_cmp) l.ids.keys (named_items (drop l.edit-index l.batch)) ≡ ascending (named_items l.batch)
