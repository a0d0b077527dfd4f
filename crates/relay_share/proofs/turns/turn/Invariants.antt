-- The counter of the call is the one that is made for it.
use Rattle.relay_share.proofs.turns.turn.Given as goal

abbrev pub ghosts-ask_share : goal.ghosts-ask_share
ghosts-ask_share g a = record { name = a.blank.name; parts = a.blank.parts }
