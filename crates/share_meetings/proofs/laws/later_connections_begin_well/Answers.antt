use Rattle.share_meetings.proofs.Later.{later_connections_begin_well}
use Rattle.share_meetings.proofs.laws.later_connections_begin_well.Goals as goal

pub returns : goal.returns
returns c = later_connections_begin_well
