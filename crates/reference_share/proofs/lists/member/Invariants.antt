use Rattle.std.proofs.Common.{◌≡◌, unwrap_or, drop}
use Rattle.share_history.specs.Histories.{all_edits}
use Rattle.share_history.specs.LastSaid.{last_said, says_member, member_at}
use Rattle.reference_share.proofs.lists.member.Given as goal

abbrev pub invariant-loop-entry : goal.invariant-loop-entry
invariant-loop-entry l =
    unwrap_or (last_said (says_member l.list l.member) (all_edits (drop l.entry-index l.history))) l.found ≡ member_at (all_edits l.history) l.list l.member
