-- A later connection of a worker: no request there was served at a lower length than one of an earlier connection.
use Rattle.std.proofs.Common.{◌≡◌, ◌≤◌, ◌<◌, ℕ, zero, suc, ◌+◌, List, [], ◌∷◌, ◌++◌, map, length, cond, Option, Some, refl, sym, ap, ◌∙◌, subst, length-append, arith}
use Rattle.std.proofs.lemmas.List.{length-take-le}
use Rattle.std.specs.List.{slice_get}
use Rattle.item_model.specs.declared.changes.Entry.{Entry}
use Rattle.share_history.specs.Listings.{Listing}
use Rattle.share_server.specs.declared.report.LinkReport.{LinkReport}
use Rattle.share_server.specs.declared.report.Served.{Served}
use Rattle.share_server.specs.Passes.{Rises}
use Rattle.share_server.specs.Served.{at_point}
use Rattle.share_workers.specs.Works.{all_served}
use Rattle.command_core.specs.Seen.{Run}
use Rattle.mirror_core.specs.Mirrored.{Mirrored}
use Rattle.mirror_client.specs.Laws.{AreAnswers, last_point}
use Rattle.mirror_client.specs.Steps.{with_listings}
use Rattle.share_replies.specs.Settings.{Settings}
use Rattle.share_meetings.specs.ServedRuns.{Rise}
use Rattle.share_meetings.specs.Mirrors.{AreListed, HeldBefore, HoldsLast, HoldsTheShare, IsListed}
use Rattle.share_meetings.proofs.Prefixes.{last_begins}
use Rattle.share_crew.specs.WorkerRuns.{IsPart, WorkerRun}
use Rattle.serve_command.specs.declared.terms.Serving.{Serving}
use Rattle.serve_command.specs.Runs as serve
use Rattle.serve_command.specs.Terms.{settings_of}
use Rattle.share_meetings.specs.Laws.{LaterConnectionsBeginWell}
use Rattle.share_meetings.specs.Meetings.{IsServedOn}
use Rattle.share_meetings.proofs.Shares.{each_at}

-- ---- lengths that rise

rises_above : (low high : ℕ) (served : List Served) → Rises low served high → low ≤ high
rises_above low high [] rises = rises
rises_above low high (v ∷ served) rises =
    let first = rises.0 in
    let rest = rises_above v.point high served rises.1 in
    omega (arith, first, rest)

rises_from : (low low' high : ℕ) (served : List Served) → low' ≤ low → Rises low served high → Rises low' served high
rises_from low low' high [] less rises = omega (arith, less, rises)
rises_from low low' high (v ∷ served) less rises = (let first = rises.0 in omega (arith, less, first), rises.1)

rises_to : (low high high' : ℕ) (served : List Served) → high ≤ high' → Rises low served high → Rises low served high'
rises_to low high high' [] more rises = omega (arith, more, rises)
rises_to low high high' (v ∷ served) more rises = (rises.0, rises_to v.point high high' served more rises.1)

-- the length of the last request, or what was there before
abbrev last_length : ℕ → List Served → ℕ
last_length low [] = low
last_length low (v ∷ served) = last_length v.point served

rises_first : (low high : ℕ) (served more : List Served) → Rises low (served ++ more) high → Rises low served high
rises_first low high [] more rises = rises_above low high more rises
rises_first low high (v ∷ served) more rises = (rises.0, rises_first v.point high served more rises.1)

rises_behind : (low high : ℕ) (served more : List Served) → Rises low (served ++ more) high → Rises (last_length low served) more high
rises_behind low high [] more rises = rises
rises_behind low high (v ∷ served) more rises = rises_behind v.point high served more rises.1

last_above : (low high : ℕ) (served : List Served) → Rises low served high → low ≤ last_length low served
last_above low high [] rises = omega arith
last_above low high (v ∷ served) rises =
    let first = rises.0 in
    let rest = last_above v.point high served rises.1 in
    omega (arith, first, rest)

one_below : (low high : ℕ) (served : List Served) (n : ℕ) (one : Served) → Rises low served high → slice_get served n ≡ Some one → one.point ≤ last_length low served
one_below low high [] n one rises at = absurd (cc at)
one_below low high (v ∷ served) zero one rises at =
    let same : v ≡ one = cc at in
    let rest = last_above v.point high served rises.1 in
    omega (arith, rest, ap (λ (x : Served). x.point) same)
one_below low high (v ∷ served) (suc n) one rises at = one_below v.point high served n one rises.1 at

-- ---- connection after connection

rises_in : (low high : ℕ) (reports : List LinkReport) (n : ℕ) (report : LinkReport) → Rises low (all_served reports) high → slice_get reports n ≡ Some report → Rises low report.served high
rises_in low high [] n report rises at = absurd (cc at)
rises_in low high (r ∷ reports) zero report rises at =
    let same : r ≡ report = cc at in
    subst (λ (x : LinkReport). Rises low x.served high) same (rises_first low high r.served (all_served reports) rises)
rises_in low high (r ∷ reports) (suc n) report rises at =
    rises_from (last_length low r.served) low high report.served (last_above low high r.served (rises_first low high r.served (all_served reports) rises))
    (rises_in (last_length low r.served) high reports n report (rises_behind low high r.served (all_served reports) rises) at)

rises_later : (low high : ℕ) (reports : List LinkReport) (n n' : ℕ) (report report' : LinkReport) (k : ℕ) (one : Served) → Rises low (all_served reports) high → slice_get reports n ≡ Some report
    → slice_get reports n' ≡ Some report' → n < n' → slice_get report.served k ≡ Some one → Rises one.point report'.served high
rises_later low high [] n n' report report' k one rises at at' less got = absurd (cc at)
rises_later low high (r ∷ reports) n zero report report' k one rises at at' less got = absurd (omega (arith, less))
rises_later low high (r ∷ reports) zero (suc n') report report' k one rises at at' less got =
    let same : r ≡ report = cc at in
    let of_first : slice_get r.served k ≡ Some one = subst (λ (x : LinkReport). slice_get x.served k ≡ Some one) (sym same) got in
    rises_from (last_length low r.served) one.point high report'.served (one_below low high r.served k one (rises_first low high r.served (all_served reports) rises) of_first)
    (rises_in (last_length low r.served) high reports n' report' (rises_behind low high r.served (all_served reports) rises) at')
rises_later low high (r ∷ reports) (suc n) (suc n') report report' k one rises at at' less got =
    rises_later (last_length low r.served) high reports n n' report report' k one (rises_behind low high r.served (all_served reports) rises) at at' (omega (arith, less)) got

-- ---- the last listing

record IsLast (h : List Entry) (served : List Served) (point : List Entry) : Type 0 where
  number : ℕ
  is : IsListed h served number point

last_listed : (h : List Entry) (served : List Served) (number : ℕ) (p : List Entry) (points : List (List Entry)) → AreListed h served number (p ∷ points)
    → IsLast h served (last_point p points)
last_listed h served number p [] are = record { number = number; is = are.0 }
last_listed h served number p (q ∷ points) are = last_listed h served (number + 2) q points are.1

module _ {settings : Settings} {opening : List Entry} where
  -- the worker with these reports
  record HasReports (crew : List (WorkerRun settings opening)) (worker : ℕ) (reports : List LinkReport) : Type 0 where
    worker_run : WorkerRun settings opening
    is_worker_run : slice_get crew worker ≡ Some worker_run
    are : worker_run.reports ≡ reports

  worker_run_at : (crew : List (WorkerRun settings opening)) (worker : ℕ) (reports : List LinkReport) → slice_get (map (λ (worker_run : WorkerRun settings opening). worker_run.reports) crew) worker ≡ Some reports
      → HasReports crew worker reports
  worker_run_at [] worker reports at = absurd (cc at)
  worker_run_at (worker_run ∷ crew) zero reports at = record { worker_run = worker_run; is_worker_run = refl; are = cc at }
  worker_run_at (worker_run ∷ crew) (suc worker) reports at =
      let rest = worker_run_at crew worker reports at in record { worker_run = rest.worker_run; is_worker_run = rest.is_worker_run; are = rest.are }

pub later_connections_begin_well : LaterConnectionsBeginWell
later_connections_begin_well serving told left h input output input' output' m l ls (serve.unopened stop fails unread files tells none) is on on' worker less holds =
    absurd (let same = none.history in cc)
later_connections_begin_well serving told left h input output input' output' m l ls (serve.unbegun asked faults begun none) is on on' worker less holds =
    absurd (let same = none.history in cc)
later_connections_begin_well serving told left h input output input' output' m l ls (serve.served edits opened read opening x) is on on' worker less holds =
    by_points holds.points holds.rise holds.listed holds.answers holds.holds
  where
    same : x.history ≡ h
    same = let both : Some x.history ≡ Some h = sym x.history_is ∙ is in cc

    -- the reports of the worker
    found : HasReports x.crew on.worker on.reports
    found = worker_run_at x.crew on.worker on.reports (subst (λ (links : List (List LinkReport)). slice_get links on.worker ≡ Some on.reports) x.links on.worked)

    alike : on'.reports ≡ on.reports
    alike =
        let both : Some on'.reports ≡ Some on.reports =
        sym on'.worked ∙ ap (λ (n : ℕ). slice_get left.links n) worker ∙ on.worked in cc

    part : IsPart x.history found.worker_run
    part = each_at (λ worker_run. IsPart x.history worker_run) x.crew on.worker found.worker_run x.one.parts found.is_worker_run

    rises : Rises (length opened) (all_served on.reports) (length h)
    rises =
        let seen : length found.worker_run.pass.seen ≤ length h = omega (
          arith,
          ap (λ (es : List Entry). length es) (sym same ∙ part.begins),
          length-append found.worker_run.pass.seen part.later,
        ) in
        subst (λ (reports : List LinkReport). Rises (length opened) (all_served reports) (length h)) found.are
        (rises_to (length opened) (length found.worker_run.pass.seen) (length h) (all_served found.worker_run.reports) seen found.worker_run.served.works.serves.fresh.rises)

    by_points : (points : List (List Entry)) → Rise points h → AreListed h on.report.served 2 points
        → AreAnswers (settings_of serving).keep m.target m.query m.meta m.held.revision points (l ∷ ls) → HoldsLast m points (with_listings m (l ∷ ls))
        → HeldBefore (with_listings m (l ∷ ls)) h on'.report.served
    by_points [] rise listed answers last = absurd answers
    by_points (p ∷ points) rise listed answers last =
        let at = last_listed h on.report.served 2 p points listed in
        let one = at.is.one in
        let begins = last_begins p points h rise in
        let size : length (last_point p points) ≡ one.point = ap (λ (es : List Entry). length es) at.is.point_is ∙ length-take-le one.point h at.is.within in
        record {
          front = last_point p points;
          later = begins.0;
          begins = begins.1;
          holds = last;
          since = subst (λ (n : ℕ). Rises n on'.report.served (length h)) (sym size)
              (rises_later (length opened) (length h) on.reports on.number on'.number on.report on'.report at.number one rises on.reported
              (subst (λ (reports : List LinkReport). slice_get reports on'.number ≡ Some on'.report) alike on'.reported) less at.is.is_there);
        }
