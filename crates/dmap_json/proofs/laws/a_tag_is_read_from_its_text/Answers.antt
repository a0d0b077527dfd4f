use Rattle.dmap_json.proofs.Written.{tag_reads}
use Rattle.dmap_json.proofs.laws.a_tag_is_read_from_its_text.Goals as goal

pub returns : goal.returns
returns c = tag_reads
