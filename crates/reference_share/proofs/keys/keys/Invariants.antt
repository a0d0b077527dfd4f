use Rattle.std.proofs.Common.{◌≡◌, drop, fold, nat_cmp}
use Rattle.std.specs.BTreeSet.{insert_key}
use Rattle.share_history.specs.Histories.{all_edits}
use Rattle.share_history.specs.Keyed.{ascending}
use Rattle.share_history.specs.Named.{named_keys}
use Rattle.reference_share.proofs.keys.keys.Given as goal

abbrev pub invariant-loop-entry : goal.invariant-loop-entry
invariant-loop-entry l =
    fold (insert_key nat_cmp) l.keys.keys (named_keys (all_edits (drop l.entry-index l.history))) ≡ ascending (named_keys (all_edits l.history))
