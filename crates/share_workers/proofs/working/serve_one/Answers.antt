use Rattle.std.proofs.Common.{◌≡◌, length, sym, ap, arith}
use Rattle.share_workers.proofs.Keepers.{keeping_as, keeping_synced}
use Rattle.share_workers.proofs.OneMore.{link_within, link_done}
use Rattle.share_workers.proofs.working.serve_one.Goals as goal

pub overflow_cast-budget : goal.overflow_cast-budget
overflow_cast-budget g c =
    let within = link_within _ _ _ _ _ _ _ _ c.keep_link-report.ensures.served in
    let is : length c.as_slice.result.now ≡ length c.keep_link-report.result.served = ap length c.as_slice.ensures in
    omega arith

pub overflow_sub-budget : goal.overflow_sub-budget
overflow_sub-budget g c =
    let within = link_within _ _ _ _ _ _ _ _ c.keep_link-report.ensures.served in
    let is : length c.as_slice.result.now ≡ length c.keep_link-report.result.served = ap length c.as_slice.ensures in
    omega arith

pub returns-clause-done : goal.returns-clause-done
returns-clause-done g c =
    let within = link_within _ _ _ _ _ _ _ _ c.keep_link-report.ensures.served in
    let is : length c.as_slice.result.now ≡ length c.keep_link-report.result.served = ap length c.as_slice.ensures in (
      c.keep_link-report.result,
      c.push_reserved.ensures.items,
      omega arith,
      sym c.is_loss-lost.ensures,
      link_done _ _ _ _ _ _ _ _ _ _ _ _ _ c.keep_link-report.ensures.served c.requires.fresh c.keep_link-report.ensures.count c.done.ensures.written_grows
          c.sync_turn-stopped.ensures.syncs,
    )

pub returns-clause-keeping : goal.returns-clause-keeping
returns-clause-keeping g c =
    keeping_as _ _ _ _ _ _ _ _ _ c.is_loss-lost.ensures (keeping_synced _ _ _ _ _ _ _ _ _ c.keep_link-report.ensures.keeping c.sync_turn-stopped.ensures.syncs)
