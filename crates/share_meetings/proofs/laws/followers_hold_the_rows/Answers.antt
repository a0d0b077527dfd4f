-- The law is its lemma.
use Rattle.share_meetings.proofs.FilterShown.{followers_hold_the_rows}
use Rattle.share_meetings.proofs.laws.followers_hold_the_rows.Goals as goal

pub returns : goal.returns
returns c = followers_hold_the_rows
