-- The law is its lemma.
use Rattle.share_history.proofs.LawFacts.{members_follow_their_items}
use Rattle.share_history.proofs.laws.a_member_follows_its_item.Goals as goal

pub returns : goal.returns
returns c = members_follow_their_items
