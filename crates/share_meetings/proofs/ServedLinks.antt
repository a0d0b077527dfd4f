-- Connections that were served to their ends.
use Rattle.std.proofs.Common.{◌≤◌, ◌⊎◌, ◌-◌, ℕ, List, [], ◌∷◌, length, sym, subst, arith}
use Rattle.item_model.specs.declared.changes.Entry.{Entry}
use Rattle.outside_net.specs.Places.{Returned}
use Rattle.share_asks.specs.declared.ask.Role.{Role}
use Rattle.share_replies.specs.Settings.{Settings}
use Rattle.http_front.specs.Readings.{Joins}
use Rattle.share_server.specs.declared.report.LinkReport.{LinkReport}
use Rattle.share_server.specs.declared.report.Served.{Served}
use Rattle.share_server.specs.Ends.{EndsAtEnd, EndsInside}
use Rattle.share_server.specs.Passes.{Rises}
use Rattle.share_server.specs.Serving.{limit_of}
use Rattle.share_workers.specs.Works.{LinksAt}
use Rattle.share_meetings.specs.MirrorLaws.{EndedLinksAreServed, WorkersLinksAreServed}
use Rattle.share_meetings.specs.Links.{AreServedLinks}

-- lengths that increase from one also do from a lower one
rises_from : (low least high : ℕ) (served : List Served) → least ≤ low → Rises low served high → Rises least served high
rises_from low least high [] less rises = omega (arith, less, rises)
rises_from low least high (s ∷ served) less rises = (omega (arith, less, rises.0), rises.1)

pub ended_links_are_served : EndedLinksAreServed
ended_links_are_served role limit k k' input output served end x = record {
  asks = x.asks;
  rest = x.rest;
  served = served;
  end = end;
  joins = subst (λ (bytes : List ℕ). Joins role bytes x.asks x.rest) (sym x.told) x.joins;
  are_served = x.serves.are_served;
  rises = rises_from (length k.seen) 0 (length k'.seen) served (omega arith) x.serves.fresh.rises;
  how =
      subst (λ (bytes : List ℕ). EndsInside role bytes k.settings limit k'.seen x.asks served x.rest output end ⊎ EndsAtEnd role bytes k.settings limit k'.seen x.asks served x.rest output end) (sym x.told)
      (subst (λ (bytes : List ℕ). EndsInside role x.input k.settings limit k'.seen x.asks served x.rest bytes end ⊎ EndsAtEnd role x.input k.settings limit k'.seen x.asks served x.rest bytes end)
      (sym x.written) x.how);
}

links_served : (s : Settings) (by : ℕ) (role : Role) (budget : ℕ) (h : List Entry) (inputs : List (List ℕ)) (reports : List LinkReport) (returns : List Returned)
    → LinksAt s by role budget h inputs reports returns → AreServedLinks s by role h inputs returns
links_served s by role budget h [] [] [] links = tt
links_served s by role budget h [] [] (returned ∷ returns) links = absurd links
links_served s by role budget h [] (report ∷ reports) returns links = absurd links
links_served s by role budget h (input ∷ inputs) [] returns links = absurd links
links_served s by role budget h (input ∷ inputs) (report ∷ reports) [] links = absurd links
links_served s by role budget h (input ∷ inputs) (report ∷ reports) (returned ∷ returns) links = (
  (
    limit_of budget,
    record {
      asks = links.0.asks;
      rest = links.0.rest;
      served = report.served;
      end = report.end;
      joins = links.0.joins;
      are_served = links.0.are_served;
      rises = links.0.rises;
      how = links.0.how;
    },
  ),
  links_served s by role (budget - length report.served) h inputs reports returns links.1,
)

pub workers_links_are_served : WorkersLinksAreServed
workers_links_are_served role k k' coming coming' written written' reports w =
    links_served k.settings k.number role 262144 k'.seen w.inputs reports w.returns w.links
