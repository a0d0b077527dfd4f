-- There is one container more than lists, and no more lists than edits.
use Rattle.std.proofs.Common.{arith}
use Rattle.share_history.specs.Histories.{all_edits}
use Rattle.reference_share.proofs.CountFacts.{few_containers}
use Rattle.reference_share.proofs.databases.containers_body.Goals as goal

pub whole_body-requires : goal.whole_body-requires
whole_body-requires c =
    omega (arith, few_containers c.args.name.now (all_edits c.args.history.now) c.in_ok-entries.entries c.in_ok-entries.ensures)
