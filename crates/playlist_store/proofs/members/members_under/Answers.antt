use Rattle.std.proofs.Common.{arith}
use Rattle.std.specs.Option.{option_map}
use Rattle.playlist_store.specs.Words.{pair_of}
use Rattle.playlist_store.proofs.MemberFacts.{pairs_next, pairs_end}
use Rattle.playlist_store.proofs.members.members_under.Goals as goal

pub loop-key-preserved : goal.loop-key-preserved
loop-key-preserved c = λ bs h.
    pairs_next _ _ (option_map pair_of c.member_under.result) _ c.args.keys.now c.loop-key.key-index 0 c.loop-key-test.true c.in_ok-push_some.ensures (c.member_under.ensures bs h)
    (c.loop-key.invariant bs h)

pub returns : goal.returns
returns c = λ bs h. pairs_end _ _ c.args.keys.now c.loop-key.key-index (omega (arith, c.loop-key-test.false)) (c.loop-key.invariant bs h)
