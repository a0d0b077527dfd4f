use Rattle.std.proofs.Common.{◌∙◌, arith}
use Rattle.outside_net.proofs.Moving.{Appends-next}
use Rattle.outside_net.proofs.sink.put_all.Goals as goal

-- what this write wrote follows what was written before
pub loop-done-preserved : goal.loop-done-preserved
loop-done-preserved g c = record {
  within = omega (arith, c.split_at.ensures.back_len, c.in_ok-done.ensures.within);
  taken = Appends-next _ _ _ _ _ _ _ c.split_at.ensures.back c.loop-done.invariant.taken c.in_ok-done.ensures.taken_grows;
  sure = omega (arith, c.loop-done.invariant.sure, c.in_ok-done.ensures.sure_stays);
  beside = c.in_ok-done.ensures.beside ∙ c.loop-done.invariant.beside;
  count = c.in_ok-done.ensures.count ∙ c.loop-done.invariant.count;
}
