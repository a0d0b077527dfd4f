use Rattle.std.proofs.Common.{◌∙◌}
use Rattle.item_model.specs.declared.request.Target.TheVariants.{Items}
use Rattle.share_history.specs.Listings.{listing}
use Rattle.share_history.specs.Mirror.{mirror_look}
use Rattle.share_listings.proofs.OnSuccess.{if_ok}
use Rattle.rehearsal.proofs.ListingFacts.{asked_is, not_older, listing_marks}
use Rattle.rehearsal.proofs.answering.update_mirror.Goals as goal

pub take-requires : goal.take-requires
take-requires c =
    let bs = c.requires.asks.0 in
    let m = c.args.mirror.now in
    let s = c.args.store.now in (
      listing s.keep bs Items (mirror_look m.query m.meta m.held.revision),
      asked_is bs s m c.in_ok-look.look c.in_ok-body.body c.requires.asks.1 c.requires.asks.2 c.in_ok-look.ensures (c.in_ok-body.ensures bs c.requires.asks.1),
      not_older bs s m c.requires.asks.2,
    )

pub returns-clause-delta : goal.returns-clause-delta
returns-clause-delta c =
    let m = c.args.mirror.now in
    let s = c.args.store.now in
    if_ok c.take.result
    (λ is_delta told bs share asks.
    told (listing s.keep bs Items (mirror_look m.query m.meta m.held.revision))
    (asked_is bs s m c.in_ok-look.look c.in_ok-body.body share asks c.in_ok-look.ensures (c.in_ok-body.ensures bs share))
    ∙ listing_marks s.keep bs (mirror_look m.query m.meta m.held.revision))
    c.take.ensures.delta

pub returns-clause-held : goal.returns-clause-held
returns-clause-held c =
    let m = c.args.mirror.now in
    let s = c.args.store.now in
    if_ok c.take.result
    (λ is_delta told bs share asks.
    told (listing s.keep bs Items (mirror_look m.query m.meta m.held.revision))
    (asked_is bs s m c.in_ok-look.look c.in_ok-body.body share asks c.in_ok-look.ensures (c.in_ok-body.ensures bs share)))
    c.take.ensures.held
