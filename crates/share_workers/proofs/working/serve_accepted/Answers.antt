use Rattle.std.proofs.Common.{sym, ◌∙◌, refl, inl, inr, arith}
use Rattle.share_workers.proofs.Keepers.{keeping_as}
use Rattle.share_workers.proofs.OneMore.{more_at, fails, stops, spends, goes_on}
use Rattle.share_workers.proofs.working.serve_accepted.Goals as goal
use Rattle.share_workers.proofs.working.serve_accepted.Goals.{then-budget-eq0-via-then-budget-eq0, then-budget-eq0-via-else-budget-eq0+then-len-eq-MOST_LINKS}

pub returns-then-after-clause-served : goal.returns-then-after-clause-served
returns-then-after-clause-served g c start before under accepts begins =
    let did = c.serve_one-after.ensures.done in
    fails _ start.pass _ start.coming _ start.written _ _ _ _
    (more_at _ _ c.args.link _ start.pass _ _ start.coming before _ _ start.written _ _ _ _ _ did.0 _ _ _ under did.4 accepts begins did.2 did.3 did.1 (c.wake_acceptors.ensures.coming_stays ∙ c.serve_one-after.ensures.coming) c.wake_acceptors.ensures.written_stays)
    c.if-after.true

pub returns-then-after-2-clause-served : goal.returns-then-after-2-clause-served
returns-then-after-2-clause-served g c start before under accepts begins =
    let did = c.serve_one-after.ensures.done in
    stops _ start.pass _ start.coming _ start.written _ _ _ _
    (more_at _ _ c.args.link _ start.pass _ _ start.coming before _ _ start.written _ _ _ _ _ did.0 _ _ _ under did.4 accepts begins did.2 did.3 did.1 (c.wake_acceptors-then-after-2.ensures.coming_stays ∙ c.serve_one-after.ensures.coming) c.wake_acceptors-then-after-2.ensures.written_stays)
    c.if-after.false (sym c.serve_one-after.ensures.stopped ∙ c.if-after-2.true)

pub returns-then-budget-eq0-clause-served : goal.returns-then-budget-eq0-clause-served
returns-then-budget-eq0-clause-served g c start before under accepts begins =
    let did = c.serve_one-after.ensures.done in
    spends _ start.pass _ start.coming _ start.written _ _ _ _
    (more_at _ _ c.args.link _ start.pass _ _ start.coming before _ _ start.written _ _ _ _ _ did.0 _ _ _ under did.4 accepts begins did.2 did.3 did.1 c.serve_one-after.ensures.coming refl)
    c.if-after.false (sym c.serve_one-after.ensures.stopped ∙ c.if-after-2.false)
    (elim c.then-budget-eq0.branch [
      | then-budget-eq0-via-then-budget-eq0 w ↦ inr (omega arith)
      | then-budget-eq0-via-else-budget-eq0+then-len-eq-MOST_LINKS w ↦ inl (omega arith)
    ])

pub returns-clause-served : goal.returns-clause-served
returns-clause-served g c start before under accepts begins =
    let did = c.serve_one-after.ensures.done in
    goes_on _ start.pass _ start.coming _ start.written _ _ _ _
    (more_at _ _ c.args.link _ start.pass _ _ start.coming before _ _ start.written _ _ _ _ _ did.0 _ _ _ under did.4 accepts begins did.2 did.3 did.1 c.serve_one-after.ensures.coming refl)
    c.if-after.false (sym c.serve_one-after.ensures.stopped ∙ c.if-after-2.false)
    (λ full. absurd (omega arith))
    (λ nothing. absurd (omega arith))

pub returns-then-after-clause-ready : goal.returns-then-after-clause-ready
returns-then-after-clause-ready g c = c.serve_one-after.ensures.ready

pub returns-then-after-clause-role : goal.returns-then-after-clause-role
returns-then-after-clause-role g c = c.serve_one-after.ensures.role

pub returns-then-after-clause-count : goal.returns-then-after-clause-count
returns-then-after-clause-count g c = c.wake_acceptors.ensures.count ∙ c.serve_one-after.ensures.count

pub returns-then-after-clause-keeping : goal.returns-then-after-clause-keeping
returns-then-after-clause-keeping g c = keeping_as _ _ _ _ _ _ _ _ _ (sym c.if-after.true) c.serve_one-after.ensures.keeping

pub returns-then-after-2-clause-ready : goal.returns-then-after-2-clause-ready
returns-then-after-2-clause-ready g c = c.serve_one-after.ensures.ready

pub returns-then-after-2-clause-role : goal.returns-then-after-2-clause-role
returns-then-after-2-clause-role g c = c.serve_one-after.ensures.role

pub returns-then-after-2-clause-count : goal.returns-then-after-2-clause-count
returns-then-after-2-clause-count g c = c.wake_acceptors-then-after-2.ensures.count ∙ c.serve_one-after.ensures.count

pub returns-then-after-2-clause-keeping : goal.returns-then-after-2-clause-keeping
returns-then-after-2-clause-keeping g c = keeping_as _ _ _ _ _ _ _ _ _ (sym c.if-after.false) c.serve_one-after.ensures.keeping

pub returns-then-budget-eq0-clause-ready : goal.returns-then-budget-eq0-clause-ready
returns-then-budget-eq0-clause-ready g c = c.serve_one-after.ensures.ready

pub returns-then-budget-eq0-clause-role : goal.returns-then-budget-eq0-clause-role
returns-then-budget-eq0-clause-role g c = c.serve_one-after.ensures.role

pub returns-then-budget-eq0-clause-count : goal.returns-then-budget-eq0-clause-count
returns-then-budget-eq0-clause-count g c = c.serve_one-after.ensures.count

pub returns-then-budget-eq0-clause-keeping : goal.returns-then-budget-eq0-clause-keeping
returns-then-budget-eq0-clause-keeping g c = keeping_as _ _ _ _ _ _ _ _ _ (sym c.if-after.false) c.serve_one-after.ensures.keeping

pub returns-clause-ready : goal.returns-clause-ready
returns-clause-ready g c = c.serve_one-after.ensures.ready

pub returns-clause-role : goal.returns-clause-role
returns-clause-role g c = c.serve_one-after.ensures.role

pub returns-clause-count : goal.returns-clause-count
returns-clause-count g c = c.serve_one-after.ensures.count

pub returns-clause-keeping : goal.returns-clause-keeping
returns-clause-keeping g c = keeping_as _ _ _ _ _ _ _ _ _ (sym c.if-after.false) c.serve_one-after.ensures.keeping
