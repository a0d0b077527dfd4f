use Rattle.relay_command.proofs.Succeeding.{successes_make_all_rounds}
use Rattle.relay_command.proofs.laws.successes_make_all_rounds.Goals as goal

pub returns : goal.returns
returns c = successes_make_all_rounds
