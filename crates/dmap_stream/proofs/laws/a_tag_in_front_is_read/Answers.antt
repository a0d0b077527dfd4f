-- The law is its lemma.
use Rattle.dmap_stream.proofs.TagsWalk.{tag_in_front}
use Rattle.dmap_stream.proofs.laws.a_tag_in_front_is_read.Goals as goal

pub returns : goal.returns
returns c = tag_in_front
