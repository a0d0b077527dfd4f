-- The law is its lemma.
use Rattle.tag_laws.proofs.Stops.{shows_or_stops}
use Rattle.tag_laws.proofs.laws.each_text_shows_tags_or_stops.Goals as goal

pub returns : goal.returns
returns c = shows_or_stops
