use Rattle.dmap_json.proofs.Walked.{one_cause}
use Rattle.dmap_json.proofs.laws.a_text_has_one_fault.Goals as goal

pub returns : goal.returns
returns c = one_cause
