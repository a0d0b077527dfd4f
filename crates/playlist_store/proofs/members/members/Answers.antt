use Rattle.std.proofs.Common.{map}
use Rattle.playlist_store.specs.Words.{pair_of}
use Rattle.playlist_store.proofs.MemberFacts.{members_found}
use Rattle.playlist_store.proofs.members.members.Goals as goal

pub returns : goal.returns
returns c =
    members_found (λ found. map pair_of found.items) c.members_under.result c.args.members.now c.in_ok-keys.keys.items c.as_slice.result.now c.args.items.now c.as_slice.ensures.value
    c.in_ok-keys.ensures c.members_under.ensures
