use Rattle.std.proofs.Common.{◌∙◌, rules}
use Rattle.listing_plan.proofs.Moves.{all_written, part_written}
use Rattle.listing_plan.proofs.plan.RowPlan.write_by.Goals as goal

pub returns-in_err-push_rest : goal.returns-in_err-push_rest
returns-in_err-push_rest g c = search rules

pub returns : goal.returns
returns g c = record {
  written = all_written _ _ _ _ _ _ _ _ _ _ _ _ c.put_front.ensures c.in_ok-push_rest.ensures.pushes c.flush.ensures.pushes c.flush.ensures.empty;
  part = part_written _ _ _ _ _ _ _ _ _ _ _ _ c.put_front.ensures c.in_ok-push_rest.ensures.pushes c.flush.ensures.pushes;
  count = search rules;
  failed = search rules;
  beside = c.flush.ensures.beside ∙ c.in_ok-push_rest.ensures.beside;
}
