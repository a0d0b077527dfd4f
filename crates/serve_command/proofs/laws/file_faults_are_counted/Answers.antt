-- The law is its lemma.
use Rattle.serve_command.proofs.Filing.{file_faults_are_counted}
use Rattle.serve_command.proofs.laws.file_faults_are_counted.Goals as goal

pub returns : goal.returns
returns c = file_faults_are_counted
