-- The counter of the call is the one that is made for it.
use Rattle.share_replay.proofs.asking.ask_share.Given as goal

abbrev pub ghosts-ask_share_with : goal.ghosts-ask_share_with
ghosts-ask_share_with a = record { name = a.blank.name; parts = a.blank.parts }
