-- The call counts with the counter that is made for it.
use Rattle.store_tests.proofs.listings.planned.Given as goal

abbrev pub ghosts-from_stores : goal.ghosts-from_stores
ghosts-from_stores a = record { name = a.blank.name; parts = a.blank.parts }
