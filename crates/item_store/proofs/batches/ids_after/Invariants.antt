use Rattle.std.proofs.Common.{◌≡◌, [], drop, fold, flat_map, nat_cmp}
use Rattle.std.specs.BTreeSet.{insert_key}
use Rattle.item_store.proofs.batches.ids_after.Given as goal

abbrev pub invariant-loop-index : goal.invariant-loop-index
invariant-loop-index l =
    fold (insert_key nat_cmp) l.ids.keys (flat_map (λ v. v.items) (drop l.index l.named.items)) ≡ fold (insert_key nat_cmp) [] (flat_map (λ v. v.items) (drop l.passed l.named.items))
