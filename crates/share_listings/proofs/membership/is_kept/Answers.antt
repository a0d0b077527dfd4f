use Rattle.std.proofs.Common.{sym, ap, subst, ◌∙◌}
use Rattle.item_model.specs.declared.request.Target.TheVariants.{Container}
use Rattle.share_history.specs.Kept.{is_kept}
use Rattle.share_listings.specs.Memberships.{IsMembership}
use Rattle.share_listings.proofs.MembershipFacts.{library_kept, kept_within}
use Rattle.share_listings.proofs.membership.is_kept.Goals as goal

pub returns-in-Library-clause-kept : goal.returns-in-Library-clause-kept
returns-in-Library-clause-kept c = λ bs target tells.
    let keep = c.args.items.now.keep in
    c.is_in_window.ensures.kept bs tells.stands ∙ library_kept keep bs target c.args.base (subst (IsMembership keep bs target) c.in-Library.is tells.members)

pub returns-in-Members-clause-kept : goal.returns-in-Members-clause-kept
returns-in-Members-clause-kept c = λ bs target tells.
    let keep = c.args.items.now.keep in
    let told = subst (IsMembership keep bs target) c.in-Members.is tells.members in
    c.kept.ensures bs told.stands ∙ ap (λ k. is_kept k bs (Container c.in-Members.list) c.args.base) told.same ∙ ap (λ t. is_kept keep bs t c.args.base) (sym told.container)

pub returns-in-Members-clause-from : goal.returns-in-Members-clause-from
returns-in-Members-clause-from c = λ is.
    let keep = c.args.items.now.keep in
    let few = c.requires.few.1 in
    let told = subst (IsMembership keep few.bs c.requires.few.0) c.in-Members.is few.tells.members in
    let kept = sym (c.kept.ensures few.bs told.stands ∙ ap (λ k. is_kept k few.bs (Container c.in-Members.list) c.args.base) told.same) ∙ is in
    (kept_within keep few.bs (Container c.in-Members.list) c.args.base c.args.items.now.revision few.tells.stands.revision kept).0

pub returns-in-Members-clause-to : goal.returns-in-Members-clause-to
returns-in-Members-clause-to c = λ is.
    let keep = c.args.items.now.keep in
    let few = c.requires.few.1 in
    let told = subst (IsMembership keep few.bs c.requires.few.0) c.in-Members.is few.tells.members in
    let kept = sym (c.kept.ensures few.bs told.stands ∙ ap (λ k. is_kept k few.bs (Container c.in-Members.list) c.args.base) told.same) ∙ is in
    (kept_within keep few.bs (Container c.in-Members.list) c.args.base c.args.items.now.revision few.tells.stands.revision kept).1
