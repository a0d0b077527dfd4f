-- The counter of the call is the one that is made for it.
use Rattle.share_core.proofs.share.Share.open_batches.Given as goal

abbrev pub ghosts-begun : goal.ghosts-begun
ghosts-begun a = record { name = a.blank.name; parts = a.blank.parts }
