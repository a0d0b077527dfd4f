-- The law is its lemma.
use Rattle.serve_command.proofs.Filing.{success_leaves_the_file}
use Rattle.serve_command.proofs.laws.success_leaves_the_file.Goals as goal

pub returns : goal.returns
returns c = success_leaves_the_file
