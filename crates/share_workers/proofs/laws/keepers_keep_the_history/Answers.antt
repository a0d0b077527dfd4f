use Rattle.share_workers.proofs.Keepers.{keeps_history}
use Rattle.share_workers.proofs.laws.keepers_keep_the_history.Goals as goal

pub returns : goal.returns
returns g c before after = keeps_history _ _ _ _ _
