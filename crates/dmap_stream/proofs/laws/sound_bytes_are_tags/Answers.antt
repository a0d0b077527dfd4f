-- The law is its lemma.
use Rattle.dmap_stream.proofs.Sound.{tags_found}
use Rattle.dmap_stream.proofs.laws.sound_bytes_are_tags.Goals as goal

pub returns : goal.returns
returns c = tags_found
