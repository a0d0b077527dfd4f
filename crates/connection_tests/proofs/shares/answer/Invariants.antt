-- The call uses the counter that is made for it.
use Rattle.connection_tests.proofs.shares.answer.Given as goal

abbrev pub ghosts-answered : goal.ghosts-answered
ghosts-answered a = record { name = a.blank.name; parts = a.blank.parts }
