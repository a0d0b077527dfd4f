use Rattle.std.proofs.Common.{◌≤◌, ◌+◌, ℕ, List, Option, option_copied, sym, ap, subst, ◌∙◌}
use Rattle.item_model.specs.declared.query.Query.{Query}
use Rattle.item_model.specs.declared.request.Look.{Look}
use Rattle.listing_plan.specs.declared.plan.Plan.TheVariants.{Rows}
use Rattle.share_history.specs.Histories.{all_edits, batches}
use Rattle.share_history.specs.Listings.{listing}
use Rattle.share_listings.specs.Answers.{StartFrom, most_ticks}
use Rattle.share_core.specs.Ticks.{starts}
use Rattle.share_core.proofs.Results.{if_ok}
use Rattle.share_core.proofs.Standing.{start_same}
use Rattle.share_core.proofs.listings.plan_listing.Goals as goal

pub listing-requires-clause-start : goal.listing-requires-clause-start
listing-requires-clause-start g c = λ bs stands.
    let h = c.requires.held.0 in
    let held = c.requires.held.1 in
    let own : Look = c.in_ok-own.own in
    start_same (batches h) bs c.args.stores.now.items own.query (option_copied c.slice_of-from.result) held.stand.items stands
    (subst (λ (t : Option Query × Option (List ℕ)). StartFrom (all_edits h) t.0 t.1)
    (λ i. ((c.as_ref.ensures.value ∙ sym (ap (λ (l : Look). l.query) c.in_ok-own.ensures)) i, sym c.slice_of-from.ensures i)) (c.in_ok-found.ensures.start h held))

pub returns-clause-plan : goal.returns-clause-plan
returns-clause-plan g c =
    if_ok c.listing.result
    (λ plan told h held.
    told (batches h) held.stand.items held.stand.lists
    ∙ ap (λ (l : Look). Rows (record { target = c.args.target; listing = listing c.args.stores.now.items.keep (batches h) c.args.target l })) c.in_ok-own.ensures)
    c.listing.ensures.listing

pub returns-clause-cost : goal.returns-clause-cost
returns-clause-cost g c = λ h held.
    subst (λ (t : ℕ × Option (List ℕ)). c.listing.new.steps ≤ c.args.steps.now + most_ticks c.args.stores.now.items.keep (batches h) c.args.target t.0 t.1)
    (λ i. (ap (λ (l : Look). l.base) c.in_ok-own.ensures i, (c.slice_of-from.ensures ∙ c.in_ok-found.ensures.found h held ∙ ap (starts (all_edits h)) c.as_ref.ensures.value) i))
    (c.listing.ensures.cost (batches h) held.stand.items held.stand.lists)
