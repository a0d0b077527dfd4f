-- The law is its lemma.
use Rattle.dmap_stream.proofs.TagsWalk.{tags_read}
use Rattle.dmap_stream.proofs.laws.tags_are_read.Goals as goal

pub returns : goal.returns
returns c = tags_read
