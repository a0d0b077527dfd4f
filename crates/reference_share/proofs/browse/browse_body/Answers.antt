-- There are at most as many values as edits.
use Rattle.std.proofs.Common.{arith}
use Rattle.std.specs.Option.{option_copied}
use Rattle.share_history.specs.Histories.{all_edits}
use Rattle.reference_share.proofs.CountFacts.{few_value_tags}
use Rattle.reference_share.proofs.browse.browse_body.Goals as goal

pub whole_body-requires : goal.whole_body-requires
whole_body-requires c =
    omega (arith, few_value_tags (all_edits c.args.history.now) c.args.browse (option_copied c.args.query) c.in_ok-texts.texts.keys c.in_ok-entries.entries c.in_ok-texts.ensures c.in_ok-entries.ensures)
