-- A connection that a run of `serve` or `relay` served is one of a share.
use Rattle.std.proofs.Common.{◌≡◌, ℕ, zero, suc, List, [], ◌∷◌, ◌++◌, map, Option, Some, None, option_map, refl, sym, ◌∙◌, subst, append-nil}
use Rattle.std.specs.Prelude.{nat_lt}
use Rattle.std.specs.List.{AllByRecursion, flat_map, slice_get}
use Rattle.item_model.specs.declared.changes.Entry.{Entry}
use Rattle.outside_net.specs.Places.{Returned}
use Rattle.outside_net.specs.Told.{Grows, GrowsByTold}
use Rattle.share_history.specs.Whole as histories
use Rattle.share_replies.specs.Settings.{Settings}
use Rattle.share_server.specs.declared.report.LinkReport.{LinkReport}
use Rattle.share_server.specs.Served.{AreServed}
use Rattle.command_core.specs.Seen.{NetSeen}
use Rattle.share_crew.specs.Listeners.{HaveLinks}
use Rattle.share_crew.specs.WorkerRuns.{IsPart, WorkerRun, returns_of}
use Rattle.relay_command.specs.Runs as relay
use Rattle.relay_command.specs.Terms as relay_terms
use Rattle.serve_command.specs.Runs as serve
use Rattle.serve_command.specs.Terms.{settings_of}
use Rattle.share_meetings.specs.Laws.{RelaysAShare, ServesAShare}
use Rattle.share_meetings.specs.Meetings.{IsServedOn}
use Rattle.share_meetings.specs.Shares.{IsOfShare}
use Rattle.share_meetings.proofs.Crews.{worker_in}

-- what holds of each element holds of the one at an index
pub each_at : {A : Type 0} (P : A → Type 0) (xs : List A) (n : ℕ) (x : A) → AllByRecursion P xs → slice_get xs n ≡ Some x → P x
each_at P [] n x each is = absurd (cc is)
each_at P (y ∷ ys) zero x each is = let same : y ≡ x = cc is in subst P same each.0
each_at P (y ∷ ys) (suc n) x each is = each_at P ys n x each.1 is

-- a connection of a crew is one of the share
crew_serves : {settings : Settings} {opening : List Entry} (crew : List (WorkerRun settings opening)) (h : List Entry) (net net' : NetSeen) (links : List (List LinkReport)) (others : List Returned)
    (input output : List ℕ) → histories.IsWhole h → AllByRecursion (IsPart h) crew → links ≡ map (λ (worker_run : WorkerRun settings opening). worker_run.reports) crew
    → HaveLinks net.listener_links (map (λ (worker_run : WorkerRun settings opening). worker_run.to_come) crew) → Grows net.written net'.written (flat_map returns_of crew ++ others)
    → (on : IsServedOn net net' links input output) → IsOfShare settings h on.report input output
crew_serves {settings = settings} crew h net net' links others input output whole parts are have grows on =
    let at = worker_in crew net net' links others input output are have grows on in
    let worker_run = at.worker_run in
    let part : IsPart h worker_run = each_at (λ worker_run. IsPart h worker_run) crew on.worker worker_run parts at.is_worker_run in
    let link = at.link in
    let number : worker_run.pass.number ≡ on.report.number = sym link.number in
    record {
      whole = whole;
      seen = worker_run.pass.seen;
      later = part.later;
      begins = part.begins;
      role = worker_run.role;
      limit = at.limit;
      link = record {
        asks = link.asks;
        rest = link.rest;
        served = on.report.served;
        end = on.report.end;
        joins = link.joins;
        are_served = subst (λ (by : ℕ). AreServed settings by worker_run.pass.seen link.asks on.report.served) number link.are_served;
        rises = link.rises;
        how = link.how;
      };
      reported = refl;
    }

-- ---- of `serve`

pub runs_serve_a_share : ServesAShare
runs_serve_a_share serving told left h input output (serve.unopened stop fails unread files tells none) is on = absurd (let same = none.history in cc)
runs_serve_a_share serving told left h input output (serve.unbegun asked faults begun none) is on = absurd (let same = none.history in cc)
runs_serve_a_share serving told left h input output (serve.served edits opened read opening x) is on =
    let same : x.history ≡ h = (let both : Some x.history ≡ Some h = sym x.history_is ∙ is in cc) in
    subst (λ (k : List Entry). IsOfShare (settings_of serving) k on.report input output) same
    (crew_serves x.crew x.history told.before.around.net told.after.around.net left.links [] input output x.whole_history x.one.parts x.links x.to_come
    (subst (λ (more : List Returned). Grows told.before.around.net.written told.after.around.net.written more) (sym (append-nil (flat_map returns_of x.crew))) x.written) on)

-- ---- of `relay`

-- the bytes of its own connection are known, as the network's list is
told_grows : (before now : Option (List Returned)) (closed more returns : List Returned) (taken : Option (List ℕ)) (faults : ℕ) → before ≡ Some closed → now ≡ Some (closed ++ more)
    → GrowsByTold before now (option_map (λ bytes. returns ++ (bytes, nat_lt 0 faults) ∷ []) taken) → (others : List Returned) × Grows before now (returns ++ others)
told_grows before now closed more returns None faults is now_is grows = absurd (let none : now ≡ None = grows in cc)
told_grows before now closed more returns (Some bytes) faults is now_is grows = ((bytes, nat_lt 0 faults) ∷ [], grows)

pub relays_serve_a_share : RelaysAShare
relays_serve_a_share relaying net net' output_before output_after left h input output (relay.unopened stop fails tells none) is on = absurd (let same = none.history in cc)
relays_serve_a_share relaying net net' output_before output_after left h input output (relay.unannounced said back none) is on = absurd (let same = none.history in cc)
relays_serve_a_share relaying net net' output_before output_after left h input output (relay.served x) is on =
    let same : x.history ≡ h = (let both : Some x.history ≡ Some h = sym x.history_is ∙ is in cc) in
    let grows = told_grows net.written net'.written on.closed on.more (flat_map returns_of x.crew) x.relay.link.taken x.relay.link.faults on.closed_are on.more_are x.written in
    subst (λ (k : List Entry). IsOfShare (relay_terms.settings_of relaying) k on.report input output) same
    (crew_serves x.crew x.history net net' left.links grows.0 input output x.whole_history x.one.parts x.links x.to_come grows.1 on)
