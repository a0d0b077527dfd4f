use Rattle.std.proofs.Common.{◌≡◌, length}
use Rattle.dmap_show.specs.Drafts.{closed}
use Rattle.dmap_show.proofs.draft.Draft.finished.Given as goal

-- closing what is still open gives what closing all gives
abbrev pub invariant-loop-list : goal.invariant-loop-list
invariant-loop-list l = closed l.around l.here ≡ closed l.fn.self.around l.fn.self.here

abbrev pub decreases-loop-list : goal.decreases-loop-list
decreases-loop-list l = length l.around
