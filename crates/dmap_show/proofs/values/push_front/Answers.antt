-- If a part is not appended, the buffer begins with what it had.
use Rattle.std.proofs.lemmas.Result.{IfOk-from_err}
use Rattle.dmap_show.proofs.Pushed.{begins_then, on_any_err}
use Rattle.dmap_show.proofs.values.push_front.Goals as goal

pub returns-in_err-push_indent : goal.returns-in_err-push_indent
returns-in_err-push_indent c = record {
  shown = IfOk-from_err _ _ c.from_residual.ensures.0;
  held = IfOk-from_err _ _ c.from_residual.ensures.0;
  text = λ h. IfOk-from_err _ _ c.from_residual.ensures.0;
  front = on_any_err _ c.in_err-push_indent.ensures.front;
}

pub returns-in_err-push_code : goal.returns-in_err-push_code
returns-in_err-push_code c = record {
  shown = IfOk-from_err _ _ c.from_residual-in_err-push_code.ensures.0;
  held = IfOk-from_err _ _ c.from_residual-in_err-push_code.ensures.0;
  text = λ h. IfOk-from_err _ _ c.from_residual-in_err-push_code.ensures.0;
  front = on_any_err _ (begins_then _ _ _ _ c.in_ok-push_indent.ensures.shown c.in_err-push_code.ensures.front);
}
