-- The store has the row, since it is the item of its key.
use Rattle.std.proofs.Common.{◌≡◌, None, Some, is_none, true≢false, sym, ap, ◌∙◌}
use Rattle.share_history.specs.Histories.{edits}
use Rattle.share_history.specs.LastSaid.{item_at}
use Rattle.share_listings.proofs.AnswerFacts.{own_row}
use Rattle.share_listings.proofs.ChangeFacts.{shared_more}
use Rattle.share_listings.proofs.changed.push_shared.Goals as goal

pub returns-in_default-clause-rows : goal.returns-in_default-clause-rows
returns-in_default-clause-rows c = λ bs row stands there same.
    let none : None ≡ Some row = sym c.in_default.is ∙ c.in_ok-row.ensures bs stands ∙ ap (item_at (edits bs)) same ∙ own_row (edits bs) c.args.target c.args.key row there in
    absurd (true≢false (ap is_none none))

pub returns-clause-rows : goal.returns-clause-rows
returns-clause-rows c = λ bs row stands there same.
    let found : Some c.in-Some.row ≡ Some row = sym c.in-Some.is ∙ c.in_ok-row.ensures bs stands ∙ ap (item_at (edits bs)) same ∙ own_row (edits bs) c.args.target c.args.key row there in
    shared_more (edits bs) c.args.target c.args.key row c.member_of-member.result c.in-Some.row c.args.rows.now.items c.push.new.self.items c.member_of-member.ensures there found
    c.in_ok-push.ensures.items
