-- Each batch counts for the limit on entries, which is small.
use Rattle.reference_share.proofs.LoginFacts.{few_revisions, few_edits}
use Rattle.store_tests.proofs.history.histories.is_small.Goals as goal

pub returns : goal.returns
returns c = record {
  revision = λ _. few_revisions c.args.history.now c.is_below_entry_limit.result c.is_below_entry_limit.ensures c.if-not-is_below_entry_limit.false;
  edits = λ h. few_edits c.args.history.now c.has_room_for.result c.has_room_for.ensures h;
}
