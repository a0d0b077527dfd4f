-- The law is its lemma.
use Rattle.mirror_core.proofs.AfterFacts.{listings_are_found}
use Rattle.mirror_core.proofs.laws.a_listing_is_found.Goals as goal

pub returns : goal.returns
returns c = listings_are_found
