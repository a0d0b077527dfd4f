-- The counter of the call is the one that is made for it.
use Rattle.bench_work.proofs.share.asking.body_bytes.Given as goal

abbrev pub ghosts-bytes_by : goal.ghosts-bytes_by
ghosts-bytes_by a = record { name = a.blank.name; parts = a.blank.parts }
