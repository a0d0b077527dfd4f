use Rattle.std.proofs.Common.{◌++◌, ◌∷◌, [], ℕ, Bool, get_or, filter, sym, ap, ◌∙◌, arith, rules}
use Rattle.std.proofs.lemmas.Result.{IfOk-from_err}
use Rattle.std.proofs.lemmas.List.{take_all}
use Rattle.share_history.specs.Keyed.{pairs_at}
use Rattle.share_listings.specs.Changes.{listed_at, is_deleted}
use Rattle.share_listings.proofs.AnswerFacts.{pairs_more, gone_more}
use Rattle.share_listings.proofs.changed.changed_at.Goals as goal

pub loop-key-preserved : goal.loop-key-preserved
loop-key-preserved g c = record {
  rows = λ bs since.
      let f = listed_at bs c.args.target c.args.look.now in
      let key = get_or c.args.keys.now c.loop-key.key-index 0 in
      c.in_ok-push_listed.ensures.rows bs c.args.look.now since.tells.stands (c.change_at-change.ensures.change bs c.args.target since)
      ∙ ap (λ l. l ++ pairs_at f (key ∷ [])) (c.loop-key.invariant.rows bs since)
      ∙ sym (pairs_more f c.args.keys.now c.loop-key.key-index key (search rules) (search rules));
  gone = λ bs since.
      let p : ℕ → Bool = is_deleted bs c.args.target c.args.look.now in
      let key = get_or c.args.keys.now c.loop-key.key-index 0 in
      c.in_ok-push_gone.ensures.gone bs c.args.target c.args.look.now (c.change_at-change.ensures.change bs c.args.target since)
      ∙ ap (λ l. l ++ filter p (key ∷ [])) (c.loop-key.invariant.gone bs since)
      ∙ sym (gone_more p c.args.keys.now c.loop-key.key-index key (search rules) (search rules));
  members = search rules;
  cost = omega (arith, c.change_at-change.ensures.cost, c.loop-key.invariant.cost);
}

pub returns-clause-rows : goal.returns-clause-rows
returns-clause-rows g c = λ bs since.
    c.loop-key.invariant.rows bs since ∙ ap (pairs_at (listed_at bs c.args.target c.args.look.now)) (take_all c.loop-key.key-index c.args.keys.now (search rules))

pub returns-in_err-push_listed : goal.returns-in_err-push_listed
returns-in_err-push_listed g c = record {
  rows = IfOk-from_err c.from_residual.result _ c.from_residual.ensures.0;
  gone = IfOk-from_err c.from_residual.result _ c.from_residual.ensures.0;
  members = IfOk-from_err c.from_residual.result _ c.from_residual.ensures.0;
  cost = omega (arith, c.change_at-change.ensures.cost, c.loop-key.invariant.cost, c.loop-key-test.true);
}

pub returns-in_err-push_gone : goal.returns-in_err-push_gone
returns-in_err-push_gone g c = record {
  rows = IfOk-from_err c.from_residual-in_err-push_gone.result _ c.from_residual-in_err-push_gone.ensures.0;
  gone = IfOk-from_err c.from_residual-in_err-push_gone.result _ c.from_residual-in_err-push_gone.ensures.0;
  members = IfOk-from_err c.from_residual-in_err-push_gone.result _ c.from_residual-in_err-push_gone.ensures.0;
  cost = omega (arith, c.change_at-change.ensures.cost, c.loop-key.invariant.cost, c.loop-key-test.true);
}
