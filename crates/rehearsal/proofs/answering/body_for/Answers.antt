use Rattle.item_model.specs.declared.request.Target.TheVariants.{Items}
use Rattle.share_history.specs.Bodies.{body_tree}
use Rattle.share_history.specs.Listings.{listing}
use Rattle.share_listings.proofs.OnSuccess.{if_ok}
use Rattle.rehearsal.proofs.ListingFacts.{carried_body, share_readable}
use Rattle.rehearsal.proofs.answering.body_for.Goals as goal

pub carry_plan-requires-clause-tag : goal.carry_plan-requires-clause-tag
carry_plan-requires-clause-tag c =
    let bs = c.requires.share.0 in
    let share = c.requires.share.1 in
    let l = listing c.args.store.now.keep bs Items c.args.look in (
      body_tree Items l,
      carried_body l c.in_ok-plan.plan (c.in_ok-plan.ensures bs share.stands) (share_readable bs c.args.store.now c.args.look share c.requires.meta c.requires.whole),
    )

pub returns : goal.returns
returns c =
    if_ok c.carry_plan.result
    (λ body told bs share.
    told (body_tree Items (listing c.args.store.now.keep bs Items c.args.look))
    (carried_body (listing c.args.store.now.keep bs Items c.args.look) c.in_ok-plan.plan (c.in_ok-plan.ensures bs share.stands)
    (share_readable bs c.args.store.now c.args.look share c.requires.meta c.requires.whole)))
    c.carry_plan.ensures
