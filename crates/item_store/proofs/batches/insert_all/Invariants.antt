use Rattle.std.proofs.Common.{◌≡◌, take, fold, nat_cmp}
use Rattle.std.specs.BTreeSet.{insert_key}
use Rattle.item_store.proofs.batches.insert_all.Given as goal

abbrev pub invariant-loop-id : goal.invariant-loop-id
invariant-loop-id l = l.ids.keys ≡ fold (insert_key nat_cmp) l.fn.ids.keys (take l.id-index l.more)
