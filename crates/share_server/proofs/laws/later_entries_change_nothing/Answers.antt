-- The law is its lemma.
use Rattle.share_server.proofs.Longer.{later_entries_change_nothing}
use Rattle.share_server.proofs.laws.later_entries_change_nothing.Goals as goal

pub returns : goal.returns
returns c = later_entries_change_nothing
