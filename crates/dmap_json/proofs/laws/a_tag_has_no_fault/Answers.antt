use Rattle.dmap_json.proofs.Walked.{no_fault}
use Rattle.dmap_json.proofs.laws.a_tag_has_no_fault.Goals as goal

pub returns : goal.returns
returns c = no_fault
