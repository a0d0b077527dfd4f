use Rattle.std.proofs.Common.{get_or, refl}
use Rattle.std.proofs.lemmas.List.{get_or_default}
use Rattle.playlist_store.proofs.BackFacts.{members_more}
use Rattle.playlist_store.proofs.back.back_members.Goals as goal

pub loop-member-preserved : goal.loop-member-preserved
loop-member-preserved c = λ some.
    let m = get_or c.args.members.now c.loop-member.member-index (0, 0) in
    members_more c.args.revision c.args.members.now c.loop-member.member-index m.0 m.1 m c.args.lists.now.entries c.loop-member.lists.entries c.back_member.new.lists.entries c.loop-member-test.true
    (get_or_default c.args.members.now c.loop-member.member-index (0, 0) m c.loop-member-test.true) refl refl (c.loop-member.invariant some) (c.back_member.ensures some)
