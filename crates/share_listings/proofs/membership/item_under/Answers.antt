use Rattle.std.proofs.Common.{sym, ap, subst, ◌∙◌}
use Rattle.std.specs.Option.{option_and_then}
use Rattle.share_history.specs.Histories.{edits}
use Rattle.share_history.specs.LastSaid.{item_at}
use Rattle.share_listings.specs.Memberships.{IsMembership, item_under}
use Rattle.share_listings.proofs.MembershipFacts.{under_target, now_standing}
use Rattle.share_listings.proofs.membership.item_under.Goals as goal

pub returns-in-Library : goal.returns-in-Library
returns-in-Library c = λ bs target tells.
    let keep = c.args.items.now.keep in
    ap (λ m. option_and_then (item_at (edits bs)) (item_under (edits bs) m c.args.key)) (sym c.in-Library.is)
    ∙ under_target keep bs target c.args.membership c.args.key tells.members

pub returns-in-Members : goal.returns-in-Members
returns-in-Members c = λ bs target tells.
    let keep = c.args.items.now.keep in
    let told = subst (IsMembership keep bs target) c.in-Members.is tells.members in
    ap (option_and_then (item_at (edits bs)))
    (now_standing c.in-Members.lists.now.keep bs c.in-Members.list c.args.key c.revision.result c.member_at.result (c.revision.ensures ∙ tells.stands.revision) (c.member_at.ensures bs told.stands))
    ∙ ap (λ m. option_and_then (item_at (edits bs)) (item_under (edits bs) m c.args.key)) (sym c.in-Members.is)
    ∙ under_target keep bs target c.args.membership c.args.key tells.members
