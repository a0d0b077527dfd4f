-- The law is its lemma.
use Rattle.share_history.proofs.MirrorFacts.{full_listings_suffice}
use Rattle.share_history.proofs.laws.a_full_listing_suffices.Goals as goal

pub returns : goal.returns
returns c = full_listings_suffice
