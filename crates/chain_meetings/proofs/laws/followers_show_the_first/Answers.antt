use Rattle.chain_meetings.proofs.RowsBehind.{followers_show_the_first}
use Rattle.chain_meetings.proofs.laws.followers_show_the_first.Goals as goal

pub returns : goal.returns
returns c = followers_show_the_first
