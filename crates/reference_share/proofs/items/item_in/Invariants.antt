use Rattle.std.proofs.Common.{◌≡◌, unwrap_or, drop}
use Rattle.std.specs.Option.{option_copied}
use Rattle.share_history.specs.LastSaid.{last_said, says_item}
use Rattle.reference_share.proofs.items.item_in.Given as goal

abbrev pub invariant-loop-edit : goal.invariant-loop-edit
invariant-loop-edit l =
    unwrap_or (last_said (says_item l.id) (drop l.edit-index l.edits)) (option_copied l.found)
    ≡ unwrap_or (last_said (says_item l.id) l.edits) (option_copied l.initial.found)
