-- The law is its lemma.
use Rattle.edit_file.proofs.Once.{broken_is_none}
use Rattle.edit_file.proofs.laws.broken_files_stand_for_none.Goals as goal

pub returns : goal.returns
returns c = broken_is_none
