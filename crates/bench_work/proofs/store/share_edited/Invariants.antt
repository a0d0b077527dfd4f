-- The counter of the call is the one that is made for it.
use Rattle.bench_work.proofs.store.share_edited.Given as goal

abbrev pub ghosts-revision_after : goal.ghosts-revision_after
ghosts-revision_after a = record { name = a.blank.name; parts = a.blank.parts }
