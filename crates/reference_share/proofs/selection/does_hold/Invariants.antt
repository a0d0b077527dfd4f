-- The counter of the call is the one that is made for it.
use Rattle.reference_share.proofs.selection.does_hold.Given as goal

abbrev pub ghosts-does_hold_by : goal.ghosts-does_hold_by
ghosts-does_hold_by a = record { name = a.blank.name; parts = a.blank.parts }
