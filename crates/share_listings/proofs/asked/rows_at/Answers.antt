use Rattle.std.proofs.Common.{◌++◌, ◌∷◌, [], get_or, option_copied, sym, ap, ◌∙◌, arith, rules}
use Rattle.std.proofs.lemmas.Result.{IfOk-from_err}
use Rattle.share_history.specs.Histories.{edits}
use Rattle.share_history.specs.Keyed.{pairs_at}
use Rattle.share_history.specs.Rows.{row_at}
use Rattle.share_listings.proofs.AnswerFacts.{pairs_more}
use Rattle.share_listings.proofs.asked.rows_at.Goals as goal

pub loop-key-preserved : goal.loop-key-preserved
loop-key-preserved g c = record {
  rows = λ bs tells.
      let f = row_at (edits bs) c.args.target (option_copied c.args.query) in
      let key = get_or c.args.keys.now c.loop-key.key-index 0 in
      let keys = c.args.keys.now in
      c.in_ok-push_key.ensures.rows bs tells ∙ ap (λ l. l ++ pairs_at f (key ∷ [])) (c.loop-key.invariant.rows bs tells)
      ∙ sym (pairs_more f keys c.loop-key.key-index key (search rules) (search rules));
  members = search rules;
  cost = omega (arith, c.in_ok-push_key.ensures.cost, c.loop-key.invariant.cost);
}

pub returns-in_err-push_key : goal.returns-in_err-push_key
returns-in_err-push_key g c = record {
  rows = IfOk-from_err c.from_residual.result _ c.from_residual.ensures.0;
  members = IfOk-from_err c.from_residual.result _ c.from_residual.ensures.0;
  cost = omega (arith, c.push_key.ensures.cost, c.loop-key.invariant.cost, c.loop-key-test.true);
}
