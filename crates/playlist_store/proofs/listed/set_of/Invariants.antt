use Rattle.std.proofs.Common.{◌≡◌, [], take, fold, nat_cmp}
use Rattle.std.specs.BTreeSet.{insert_key}
use Rattle.playlist_store.proofs.listed.set_of.Given as goal

abbrev pub invariant-loop-id : goal.invariant-loop-id
invariant-loop-id l = l.set.keys ≡ fold (insert_key nat_cmp) [] (take l.id-index l.ids)
