-- If a part is not appended, the buffer begins with what it had.
use Rattle.std.proofs.lemmas.Result.{IfOk-from_err}
use Rattle.dmap_show.proofs.Pushed.{begins_then, on_any_err}
use Rattle.dmap_show.proofs.adding.push_quoted.Goals as goal

pub returns-in_err-push_str : goal.returns-in_err-push_str
returns-in_err-push_str c = record {
  shown = IfOk-from_err _ _ c.from_residual.ensures.0;
  held = c.str_of-text.ensures.held;
  text = λ h. IfOk-from_err _ _ c.from_residual.ensures.0;
  front = on_any_err _ c.in_err-push_str.ensures.front;
}

pub returns-in_err-push_escaped_text : goal.returns-in_err-push_escaped_text
returns-in_err-push_escaped_text c = record {
  shown = IfOk-from_err _ _ c.from_residual-in_err-push_escaped_text.ensures.0;
  held = c.str_of-text.ensures.held;
  text = λ h. IfOk-from_err _ _ c.from_residual-in_err-push_escaped_text.ensures.0;
  front = on_any_err _ (begins_then _ _ _ _ c.in_ok-push_str.ensures.shown c.in_err-push_escaped_text.ensures.front);
}
