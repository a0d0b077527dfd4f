use Rattle.listing_plan.proofs.Moves.{pushes_put, pushes_none}
use Rattle.listing_plan.proofs.rows.push_row.Goals as goal

pub returns-in_err-make_room-clause-pushes : goal.returns-in_err-make_room-clause-pushes
returns-in_err-make_room-clause-pushes g c = pushes_none _ _ _ _ _ _ _ _ _ _ c.from_residual.ensures.0 c.in_err-make_room.ensures.pushes

pub returns-clause-pushes : goal.returns-clause-pushes
returns-clause-pushes g c = pushes_put _ _ _ _ _ _ _ _ c.in_ok-make_room.ensures.pushes c.put_row.ensures
