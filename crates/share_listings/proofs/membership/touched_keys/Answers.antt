use Rattle.std.proofs.Common.{sym, ap, subst, ◌∙◌}
use Rattle.share_history.specs.Kept.{touched}
use Rattle.share_listings.specs.Memberships.{IsMembership}
use Rattle.share_listings.proofs.MembershipFacts.{library_touched}
use Rattle.share_listings.proofs.OnSuccess.{if_ok}
use Rattle.share_listings.proofs.membership.touched_keys.Goals as goal

pub returns-in-Library : goal.returns-in-Library
returns-in-Library c =
    if_ok c.changed_since.result
    (λ keys told bs target tells.
    told bs tells.stands ∙ library_touched bs target c.args.base (subst (IsMembership c.args.items.now.keep bs target) c.in-Library.is tells.members))
    c.changed_since.ensures

pub returns-in-Members : goal.returns-in-Members
returns-in-Members c =
    if_ok c.changed_since-in-Members.result
    (λ keys known bs target tells.
    let told = subst (IsMembership c.args.items.now.keep bs target) c.in-Members.is tells.members in
    known bs told.stands tells.stands ∙ ap (λ t. touched bs t c.args.base) (sym told.container))
    c.changed_since-in-Members.ensures
