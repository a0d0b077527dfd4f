use Rattle.std.proofs.Common.{option_copied, sym}
use Rattle.share_history.specs.Histories.{edits}
use Rattle.listing_plan.specs.Plans.{keyed}
use Rattle.share_listings.proofs.AnswerFacts.{none_more}
use Rattle.std.proofs.lemmas.Result.{on_ok_weaker}
use Rattle.share_listings.proofs.asked.push_key.Goals as goal

pub returns-in-Some-clause-rows : goal.returns-in-Some-clause-rows
returns-in-Some-clause-rows g c =
    on_ok_weaker c.push_member.result (λ pushed bs tells. pushed bs tells.stands (sym (c.in-Some.ensures bs c.args.target tells))) c.push_member.ensures.rows

pub returns-in-None-clause-rows : goal.returns-in-None-clause-rows
returns-in-None-clause-rows g c = λ bs tells.
    none_more (edits bs) c.args.target (option_copied c.args.query) c.args.key (keyed c.args.rows.now.items) (sym (c.in-None.ensures bs c.args.target tells))
