-- If the x is not appended, the buffer is as it was.
use Rattle.std.proofs.Common.{rules}
use Rattle.std.proofs.lemmas.Result.{IfOk-from_err}
use Rattle.dmap_show.proofs.Pushed.{on_any_err}
use Rattle.dmap_show.proofs.adding.push_code.Goals as goal

pub returns-in_err-push_str : goal.returns-in_err-push_str
returns-in_err-push_str c = record {
  held = search rules;
  shown = IfOk-from_err _ _ c.from_residual.ensures.0;
  text = λ h. IfOk-from_err _ _ c.from_residual.ensures.0;
  front = on_any_err _ c.in_err-push_str.ensures.front;
}
