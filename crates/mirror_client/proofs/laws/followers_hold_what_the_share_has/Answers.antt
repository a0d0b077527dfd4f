use Rattle.mirror_client.proofs.ServedFacts.{followers_hold_what_the_share_has}
use Rattle.mirror_client.proofs.laws.followers_hold_what_the_share_has.Goals as goal

pub returns : goal.returns
returns c = followers_hold_what_the_share_has
