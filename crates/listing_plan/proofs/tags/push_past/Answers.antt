use Rattle.std.proofs.Common.{◌∙◌}
use Rattle.listing_plan.proofs.Moves.{pushes_then, pushes_past, pushes_none}
use Rattle.listing_plan.proofs.tags.push_past.Goals as goal

pub returns-in_err-flush : goal.returns-in_err-flush
returns-in_err-flush g c = record {
  pushes = pushes_none _ _ _ _ _ _ _ _ _ _ c.from_residual.ensures.0 c.in_err-flush.ensures.pushes;
  beside = c.in_err-flush.ensures.beside;
}

pub returns : goal.returns
returns g c =
    let past = pushes_past c.args.bytes.now c.put_all.result _ _ c.flush.new.self _ _ c.in_ok-flush.ensures.empty c.put_all.ensures.all c.put_all.ensures.part c.put_all.ensures.count in
    record {
      pushes = pushes_then _ _ _ _ _ _ _ _ _ _ _ _ c.in_ok-flush.ensures.pushes past;
      beside = c.put_all.ensures.beside ∙ c.in_ok-flush.ensures.beside;
    }
