-- The law is its lemma.
use Rattle.share_history.proofs.LawFacts.{new_targets_are_not_kept}
use Rattle.share_history.proofs.laws.a_new_target_is_not_kept.Goals as goal

pub returns : goal.returns
returns c = new_targets_are_not_kept
