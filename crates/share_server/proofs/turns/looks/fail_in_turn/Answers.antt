use Rattle.std.proofs.Common.{rules}
use Rattle.share_server.proofs.turns.looks.fail_in_turn.Goals as goal

pub take-turn-requires : goal.take-turn-requires
take-turn-requires g c = search rules

pub state-share-requires : goal.state-share-requires
state-share-requires g c κs = search rules

pub is_stopped-requires : goal.is_stopped-requires
is_stopped-requires g c = search rules

pub revision-requires : goal.revision-requires
revision-requires g c = search rules

pub len-requires : goal.len-requires
len-requires g c = search rules

pub turn_outcome-outcome-requires : goal.turn_outcome-outcome-requires
turn_outcome-outcome-requires g c = search rules

pub give-requires-clause-inside : goal.give-requires-clause-inside
give-requires-clause-inside g c = search rules

pub give-requires-clause-settings : goal.give-requires-clause-settings
give-requires-clause-settings g c = search rules

pub returns-clause-ready : goal.returns-clause-ready
returns-clause-ready g c = search rules

pub returns-clause-goes_on : goal.returns-clause-goes_on
returns-clause-goes_on g c = search rules
