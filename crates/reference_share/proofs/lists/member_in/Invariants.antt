use Rattle.std.proofs.Common.{◌≡◌, unwrap_or, drop}
use Rattle.share_history.specs.LastSaid.{last_said, says_member}
use Rattle.reference_share.proofs.lists.member_in.Given as goal

abbrev pub invariant-loop-edit : goal.invariant-loop-edit
invariant-loop-edit l =
    unwrap_or (last_said (says_member l.list l.member) (drop l.edit-index l.edits)) l.found ≡ unwrap_or (last_said (says_member l.list l.member) l.edits) l.initial.found
