use Rattle.std.proofs.Common.{refl, sym, subst, Option, List}
use Rattle.outside_net.specs.Places.{Returned}
use Rattle.outside_net.specs.Told.{BeginsEmpty}
use Rattle.share_workers.proofs.Keepers.{keeping_same}
use Rattle.share_workers.proofs.OneMore.{moved}
use Rattle.share_workers.proofs.working.serve_next.Goals as goal

pub returns-in-Ok-Some-clause-served : goal.returns-in-Ok-Some-clause-served
returns-in-Ok-Some-clause-served g c start under =
    c.serve_accepted.ensures.served start _
    (moved _ start.pass _ start.coming _ start.written _ _ _ _ _ c.reserve.ensures.items c.accept.ensures.written_stays under)
    (rw c.in-Ok-Some.field-0-is at c.in-Ok-Some.ensures.next)
    (subst (λ (w : Option (List Returned)). BeginsEmpty w (g.D.L.Sink.taken c.in-Ok-Some.link)) (sym c.accept.ensures.written_stays) (rw c.in-Ok-Some.field-0-is at c.in-Ok-Some.ensures.unwritten))

pub returns-then-is_err-clause-ready : goal.returns-then-is_err-clause-ready
returns-then-is_err-clause-ready g c = c.requires.ready

pub returns-then-is_err-clause-role : goal.returns-then-is_err-clause-role
returns-then-is_err-clause-role g c = refl

pub returns-then-is_err-clause-keeping : goal.returns-then-is_err-clause-keeping
returns-then-is_err-clause-keeping g c = keeping_same _ _ _ _ _ c.requires.going refl

pub returns-in-Err-clause-ready : goal.returns-in-Err-clause-ready
returns-in-Err-clause-ready g c = c.requires.ready

pub returns-in-Err-clause-role : goal.returns-in-Err-clause-role
returns-in-Err-clause-role g c = refl

pub returns-in-Err-clause-keeping : goal.returns-in-Err-clause-keeping
returns-in-Err-clause-keeping g c = keeping_same _ _ _ _ _ c.requires.going refl

pub returns-in-Ok-None-clause-ready : goal.returns-in-Ok-None-clause-ready
returns-in-Ok-None-clause-ready g c = c.requires.ready

pub returns-in-Ok-None-clause-role : goal.returns-in-Ok-None-clause-role
returns-in-Ok-None-clause-role g c = refl

pub returns-in-Ok-None-clause-keeping : goal.returns-in-Ok-None-clause-keeping
returns-in-Ok-None-clause-keeping g c = keeping_same _ _ _ _ _ c.requires.going refl

pub returns-in-Ok-Some-clause-ready : goal.returns-in-Ok-Some-clause-ready
returns-in-Ok-Some-clause-ready g c = c.serve_accepted.ensures.ready

pub returns-in-Ok-Some-clause-role : goal.returns-in-Ok-Some-clause-role
returns-in-Ok-Some-clause-role g c = c.serve_accepted.ensures.role

pub returns-in-Ok-Some-clause-keeping : goal.returns-in-Ok-Some-clause-keeping
returns-in-Ok-Some-clause-keeping g c = c.serve_accepted.ensures.keeping

pub serve_accepted-requires-clause-ready : goal.serve_accepted-requires-clause-ready
serve_accepted-requires-clause-ready g c κs within = c.requires.ready

pub serve_accepted-requires-clause-going : goal.serve_accepted-requires-clause-going
serve_accepted-requires-clause-going g c κs within = c.requires.going
