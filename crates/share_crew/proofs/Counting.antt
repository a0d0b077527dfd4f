-- The numbers of connections and requests fit 64 bits.
use Rattle.std.proofs.Common.{◌≡◌, ◌+◌, ◌*◌, ◌<◌, ◌≤◌, ◌^◌, ℕ, List, [], ◌∷◌, length, map, Option, sym, subst, ap, ◌∙◌, arith, length-append}
use Rattle.std.proofs.lemmas.Grind.{flat_map-append}
use Rattle.std.specs.List.{AllZip, flat_map}
use Rattle.outside_net.specs.Places.{Returned}
use Rattle.share_server.specs.declared.report.LinkReport.{LinkReport}
use Rattle.share_workers.specs.declared.worker.Worker.{Worker}
use Rattle.share_workers.specs.Works.{all_served}
use Rattle.share_crew.specs.Lines.{links_in, requests_in}
use Rattle.share_crew.specs.Crews.{HasEnded}

-- the requests of one worker, and of those after it
pub requests_more : (links : List LinkReport) (workers : List (List LinkReport)) → requests_in (links ∷ workers) ≡ length (all_served links) + requests_in workers
requests_more links workers =
    ap length (flat_map-append (λ (report : LinkReport). report.served) links (flat_map (λ (l : List LinkReport). l) workers))
    ∙ length-append (all_served links) (all_served (flat_map (λ (l : List LinkReport). l) workers))

pub links_more : (links : List LinkReport) (workers : List (List LinkReport)) → links_in (links ∷ workers) ≡ length links + links_in workers
links_more links workers = length-append links (flat_map (λ (l : List LinkReport). l) workers)

module _ {D : Type 0} (coming : D → Option (List (List ℕ))) (written : D → Option (List Returned)) (faults : D → ℕ) where
  few_links : (before after : List (Worker D)) → AllZip (HasEnded coming written faults) before after → links_in (map (λ (w : Worker D). w.reports.items) after) ≤ 65536 * length before
  few_links [] [] served = omega arith
  few_links [] (new ∷ after) served = absurd served
  few_links (old ∷ before) [] served = absurd served
  few_links (old ∷ before) (new ∷ after) served =
      let rest = few_links before after served.1 in
      let more = links_more new.reports.items (map (λ (w : Worker D). w.reports.items) after) in
      let few = served.0.within.0 in
      omega (arith, rest, more, few)

  few_requests : (before after : List (Worker D)) → AllZip (HasEnded coming written faults) before after → requests_in (map (λ (w : Worker D). w.reports.items) after) ≤ 262144 * length before
  few_requests [] [] served = omega arith
  few_requests [] (new ∷ after) served = absurd served
  few_requests (old ∷ before) [] served = absurd served
  few_requests (old ∷ before) (new ∷ after) served =
      let rest = few_requests before after served.1 in
      let more = requests_more new.reports.items (map (λ (w : Worker D). w.reports.items) after) in
      let few = served.0.within.1 in
      omega (arith, rest, more, few)

  pub links_fit : (before after : List (Worker D)) (links : List (List LinkReport)) → AllZip (HasEnded coming written faults) before after → length before ≤ 72
      → links ≡ map (λ (w : Worker D). w.reports.items) after → links_in links < 2 ^ 64
  links_fit before after links served few is =
      let most = few_links before after served in
      subst (λ l. links_in l < 2 ^ 64) (sym is) (omega (arith, most, few))

  pub requests_fit : (before after : List (Worker D)) (links : List (List LinkReport)) → AllZip (HasEnded coming written faults) before after → length before ≤ 72
      → links ≡ map (λ (w : Worker D). w.reports.items) after → requests_in links < 2 ^ 64
  requests_fit before after links served few is =
      let most = few_requests before after served in
      subst (λ l. requests_in l < 2 ^ 64) (sym is) (omega (arith, most, few))
