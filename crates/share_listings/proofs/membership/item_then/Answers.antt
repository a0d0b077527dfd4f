use Rattle.std.proofs.Common.{sym, ap, subst, ◌∙◌}
use Rattle.item_model.specs.declared.request.Target.TheVariants.{Container}
use Rattle.share_history.specs.Histories.{edits, up_to}
use Rattle.share_history.specs.Kept.{is_kept}
use Rattle.share_history.specs.Rows.{in_target}
use Rattle.share_listings.specs.Memberships.{IsMembership}
use Rattle.share_listings.proofs.MembershipFacts.{library_items, target_then}
use Rattle.share_listings.proofs.membership.item_then.Goals as goal

pub returns-in-Library : goal.returns-in-Library
returns-in-Library c = λ bs items target since.
    sym (library_items (edits (up_to bs c.args.base)) target c.args.key (subst (IsMembership items.keep bs target) c.in-Library.is since.tells.members))

pub returns-in-Members : goal.returns-in-Members
returns-in-Members c = λ bs items target since.
    let told = subst (IsMembership items.keep bs target) c.in-Members.is since.tells.members in
    let kept = ap (λ t. is_kept items.keep bs t c.args.base) (sym told.container) ∙ since.kept in
    target_then items.keep bs c.in-Members.list c.args.key c.args.base c.member_at.result told.beside kept
    (c.member_at.ensures bs told.stands (ap (λ keep. is_kept keep bs (Container c.in-Members.list) c.args.base) told.same ∙ kept))
    ∙ ap (λ t. in_target (edits (up_to bs c.args.base)) t c.args.key) (sym told.container)
