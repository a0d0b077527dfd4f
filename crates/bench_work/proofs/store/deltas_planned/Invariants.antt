-- The counter of the call is the one that is made for it.
use Rattle.bench_work.proofs.store.deltas_planned.Given as goal

abbrev pub ghosts-deltas_len : goal.ghosts-deltas_len
ghosts-deltas_len a = record { name = a.blank.name; parts = a.blank.parts }
