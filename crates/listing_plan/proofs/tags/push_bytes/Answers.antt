use Rattle.listing_plan.proofs.Moves.{pushes_put, pushes_none}
use Rattle.listing_plan.proofs.tags.push_bytes.Goals as goal

pub returns-in_err-make_room : goal.returns-in_err-make_room
returns-in_err-make_room g c = record {
  pushes = pushes_none _ _ _ _ _ _ _ _ _ _ c.from_residual.ensures.0 c.in_err-make_room.ensures.pushes;
  beside = c.in_err-make_room.ensures.beside;
}

pub returns : goal.returns
returns g c = record {
  pushes = pushes_put _ _ _ _ _ _ _ _ c.in_ok-make_room.ensures.pushes c.put.ensures.put;
  beside = c.in_ok-make_room.ensures.beside;
}
