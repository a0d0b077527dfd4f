use Rattle.dmap_json.proofs.Walked.{one_reading}
use Rattle.dmap_json.proofs.laws.a_text_is_one_tag.Goals as goal

pub returns : goal.returns
returns c = one_reading
