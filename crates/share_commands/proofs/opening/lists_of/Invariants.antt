-- The call uses the counter that is made for it.
use Rattle.share_commands.proofs.opening.lists_of.Given as goal

abbrev pub ghosts-lists_by : goal.ghosts-lists_by
ghosts-lists_by a = record { name = a.blank.name; parts = a.blank.parts }
