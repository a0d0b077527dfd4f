use Rattle.std.proofs.Common.{◌≡◌, unwrap_or, drop}
use Rattle.std.specs.Option.{option_copied}
use Rattle.share_history.specs.Histories.{all_edits}
use Rattle.share_history.specs.LastSaid.{last_said, says_item, item_at}
use Rattle.reference_share.proofs.items.item.Given as goal

abbrev pub invariant-loop-entry : goal.invariant-loop-entry
invariant-loop-entry l =
    unwrap_or (last_said (says_item l.id) (all_edits (drop l.entry-index l.history))) (option_copied l.found) ≡ item_at (all_edits l.history) l.id
