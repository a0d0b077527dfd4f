use Rattle.std.proofs.Common.{◌≡◌, drop}
use Rattle.std.specs.List.{list_any}
use Rattle.share_history.specs.Histories.{all_edits}
use Rattle.reference_share.specs.NamedBy.{names}
use Rattle.reference_share.proofs.names.is_named.Given as goal

abbrev pub invariant-loop-entry : goal.invariant-loop-entry
invariant-loop-entry l =
    list_any (names l.named) (all_edits (drop l.entry-index l.entries)) ≡ list_any (names l.named) (all_edits l.entries)
