use Rattle.std.proofs.Common.{option_copied, sym, ◌∙◌}
use Rattle.share_history.specs.Histories.{edits}
use Rattle.listing_plan.specs.Plans.{keyed}
use Rattle.share_listings.proofs.AnswerFacts.{asked_more}
use Rattle.std.proofs.lemmas.Result.{on_ok_weaker}
use Rattle.share_listings.proofs.asked.push_member.Goals as goal

pub returns-in-Ok-Some-clause-rows : goal.returns-in-Ok-Some-clause-rows
returns-in-Ok-Some-clause-rows g c =
    let found = rw c.in-Ok-Some.field-0-is at c.in-Ok-Some.ensures in
    on_ok_weaker c.push_asked.result
    (λ pushed bs stands same.
    asked_more (edits bs) c.args.target (option_copied c.args.query) c.args.member.key c.member_of.result c.in-Ok-Some.row (keyed c.args.rows.now.items) (keyed c.push_asked.new.rows.items)
    c.member_of.ensures (same ∙ sym (found bs stands)) pushed)
    c.push_asked.ensures.rows
