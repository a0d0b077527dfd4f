use Rattle.std.proofs.Common.{◌≡◌, length}
use Rattle.dmap_show.specs.Drafts.{lowered}
use Rattle.dmap_show.proofs.draft.Draft.lowered.Given as goal

-- closing what is left gives the same result as closing all
abbrev pub invariant-loop-list : goal.invariant-loop-list
invariant-loop-list l = lowered l.level l.around l.here ≡ lowered l.level l.fn.self.around l.fn.self.here

abbrev pub decreases-loop-list : goal.decreases-loop-list
decreases-loop-list l = length l.around
