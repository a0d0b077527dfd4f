use Rattle.std.proofs.Common.{◌≡◌, ◌++◌}
use Rattle.std.specs.Vec.Iter.{into_iter_items}
use Rattle.share_core.specs.Opened.{LeaveFewLists, opened_with}
use Rattle.share_core.proofs.share.begin_all.Given as goal

-- the share begins with the batches so far
abbrev pub invariant-loop-batch : goal.invariant-loop-batch
invariant-loop-batch g l = record {
  is : l.share ≡ record { settings = l.fn.share.settings; history = opened_with l.yielded; marks = l.fn.share.marks };
  fits : LeaveFewLists l.yielded;
  items : l.yielded ++ into_iter_items l.batch-iterator ≡ l.fn.batches.items;
}
