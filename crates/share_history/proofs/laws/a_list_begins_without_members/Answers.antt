-- The law is its lemma.
use Rattle.share_history.proofs.LawFacts.{lists_begin_without_members}
use Rattle.share_history.proofs.laws.a_list_begins_without_members.Goals as goal

pub returns : goal.returns
returns c = lists_begin_without_members
