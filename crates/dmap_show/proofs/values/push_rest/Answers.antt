-- What was in the buffer is still its beginning.
use Rattle.std.proofs.Common.{sym, subst}
use Rattle.std.proofs.lemmas.Result.{on_err_weaker}
use Rattle.dmap_tags.specs.Begins.{Begins}
use Rattle.dmap_tags.proofs.Fronts.{begins_more, begins_append}
use Rattle.dmap_show.proofs.values.push_rest.Goals as goal

pub returns-clause-front : goal.returns-clause-front
returns-clause-front c =
    let value = subst (Begins _) (sym (c.in_ok-push_value.ensures.shown (0, 0, 0, 0))) (begins_append _ _) in
    on_err_weaker c.push_str.result (begins_more _ _ _ value) c.push_str.ensures.front
