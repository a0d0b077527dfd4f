use Rattle.std.proofs.Common.{◌++◌, ◌∷◌, [], get_or, option_copied, sym, ap, ◌∙◌, arith, rules}
use Rattle.std.proofs.lemmas.Result.{IfOk-from_err}
use Rattle.share_history.specs.Histories.{edits}
use Rattle.share_history.specs.Keyed.{pairs_at}
use Rattle.share_history.specs.Rows.{row_at}
use Rattle.playlist_store.specs.declared.head.Member.{Member}
use Rattle.share_listings.proofs.AnswerFacts.{members_more}
use Rattle.share_listings.proofs.asked.rows_of.Goals as goal

pub loop-member-preserved : goal.loop-member-preserved
loop-member-preserved g c = record {
  rows = λ bs stands are.
      let f = row_at (edits bs) c.args.target (option_copied c.args.query) in
      let members = c.args.members.now in
      let i = c.loop-member.member-index in
      let member : Member = get_or members i (record { key = 0; item = 0 }) in
      c.in_ok-push_member.ensures.rows bs stands (are i (record { key = 0; item = 0 }) (search rules))
      ∙ ap (λ l. l ++ pairs_at f (member.key ∷ [])) (c.loop-member.invariant.rows bs stands are) ∙ sym (members_more f members i member (search rules) (search rules));
  members = search rules;
  cost = omega (arith, c.in_ok-push_member.ensures.cost, c.loop-member.invariant.cost);
}

pub returns-in_err-push_member : goal.returns-in_err-push_member
returns-in_err-push_member g c = record {
  rows = IfOk-from_err c.from_residual.result _ c.from_residual.ensures.0;
  members = IfOk-from_err c.from_residual.result _ c.from_residual.ensures.0;
  cost = omega (arith, c.push_member.ensures.cost, c.loop-member.invariant.cost, c.loop-member-test.true);
}
