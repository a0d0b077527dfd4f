use Rattle.std.proofs.Common.{◌≡◌, drop, fold, nat_cmp}
use Rattle.std.specs.BTreeSet.{insert_key}
use Rattle.share_history.specs.Named.{named_keys}
use Rattle.reference_share.proofs.keys.put_keys.Given as goal

abbrev pub invariant-loop-edit : goal.invariant-loop-edit
invariant-loop-edit l =
    fold (insert_key nat_cmp) l.keys.keys (named_keys (drop l.edit-index l.edits)) ≡ fold (insert_key nat_cmp) l.initial.keys.keys (named_keys l.edits)
