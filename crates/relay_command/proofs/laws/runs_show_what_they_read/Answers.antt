use Rattle.relay_command.proofs.Shown.{runs_show_what_they_read}
use Rattle.relay_command.proofs.laws.runs_show_what_they_read.Goals as goal

pub returns : goal.returns
returns c = runs_show_what_they_read
