use Rattle.std.proofs.lemmas.Result.{on_ok_weaker, on_err_weaker}
use Rattle.prop_index.proofs.index.PropIndex.apply_all.Goals as goal

-- all changes lead to the rows after them
pub returns-clause-ok : goal.returns-clause-ok
returns-clause-ok c = on_ok_weaker c.take_in.result (λ taken rows rising fits stands. taken rows _ (c.in_ok-turns.ensures rows rising fits) stands) c.take_in.ensures.ok

pub returns-clause-err : goal.returns-clause-err
returns-clause-err c = on_err_weaker c.take_in.result (λ taken rows rising fits stands. taken rows _ (c.in_ok-turns.ensures rows rising fits) stands) c.take_in.ensures.err
