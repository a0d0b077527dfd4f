use Rattle.share_replay.proofs.Texts.{none_at}
use Rattle.share_replay.proofs.script.new_flags.Goals as goal

pub returns-clause-none : goal.returns-clause-none
returns-clause-none c = λ number. none_at 65 number
