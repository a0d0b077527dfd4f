use Rattle.listing_plan.proofs.Moves.{pushes_flushed, pushes_kept}
use Rattle.listing_plan.proofs.page.Page.flush.Goals as goal

pub returns-in_err-put_all-clause-pushes : goal.returns-in_err-put_all-clause-pushes
returns-in_err-put_all-clause-pushes g c = pushes_kept _ _ _ _ _ _ _ _ c.from_residual.ensures.0 c.as_slice.ensures c.in_err-put_all.ensures.part c.in_err-put_all.ensures.count

pub returns-clause-pushes : goal.returns-clause-pushes
returns-clause-pushes g c = pushes_flushed _ _ _ _ _ _ c.as_slice.ensures c.in_ok-put_all.ensures.all c.in_ok-put_all.ensures.count
