use Rattle.std.proofs.Common.{◌≤◌, take}
use Rattle.playlist_store.specs.Changes.{ReturnsAt, ReturnsMembers}
use Rattle.playlist_store.proofs.back.back_members.Given as goal

abbrev pub invariant-loop-member : goal.invariant-loop-member
invariant-loop-member l = 1 ≤ l.revision → ReturnsAt (ReturnsMembers l.revision (take l.member-index l.members)) l.fn.lists.entries l.lists.entries
