-- The law is its lemma.
use Rattle.edit_file.proofs.Once.{one_list}
use Rattle.edit_file.proofs.laws.files_stand_once.Goals as goal

pub returns : goal.returns
returns c = one_list
