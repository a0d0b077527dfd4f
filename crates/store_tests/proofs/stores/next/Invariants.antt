-- The call counts with the counter that is made for it.
use Rattle.store_tests.proofs.stores.next.Given as goal

abbrev pub ghosts-next_by : goal.ghosts-next_by
ghosts-next_by a = record { name = a.blank.name; parts = a.blank.parts }
