-- A run of `serve`, put together.
use Rattle.std.proofs.Common.{◌≡◌, ◌+◌, ℕ, Bool, List, [], ◌++◌, length, map, Option, Some, sym, subst, ap, ◌∙◌, append-nil}
use Rattle.std.proofs.lemmas.List.{length-map}
use Rattle.std.proofs.lemmas.Simd.{splat_is_map}
use Rattle.outside_net.specs.Told.{Grows}
use Rattle.outside_net.specs.Places.{Returned}
use Rattle.item_model.specs.declared.changes.Entry.{Entry}
use Rattle.share_asks.specs.declared.ask.Role.{Role}
use Rattle.share_asks.specs.declared.ask.Role.TheVariants as role
use Rattle.share_history.specs.Histories.{batches, revision}
use Rattle.share_history.specs.Whole.{IsWhole}
use Rattle.share_server.specs.declared.report.LinkReport.{LinkReport}
use Rattle.share_server.specs.Passes.{Pass}
use Rattle.command_core.specs.Endings.{IsWritten}
use Rattle.command_core.specs.Seen.{NetSeen, OutputSeen}
use Rattle.serve_command.specs.declared.terms.Serving.{Serving}
use Rattle.share_crew.specs.declared.verdict.Verdict.{Verdict}
use Rattle.serve_command.specs.Terms.{settings_of, places_of, workers_of, roles_of}
use Rattle.share_crew.specs.Lines.{ended_line}
use Rattle.share_workers.specs.declared.worker.WorkerEnd.TheVariants.{FileFault}
use Rattle.share_crew.specs.Verdicts.{has_end, verdict_of}
use Rattle.share_crew.specs.Listeners.{CountsListenerFaults, HaveLinks}
use Rattle.share_crew.specs.Gathered.{HasGathered}
use Rattle.serve_command.specs.Places.{HasOpened}
use Rattle.share_crew.specs.WorkerRuns.{WorkerRun, IsHistoryOf, passes_in}
use Rattle.serve_command.specs.Runs.{ServeOutcome, WritesEnd, HasServed}
use Rattle.serve_command.proofs.Ending.{whole_by}

pub roles_are : {D : Type 0} (serving : Serving) (listen edit : List D) → length listen ≡ serving.workers → length edit ≡ serving.editors
    → map (λ (d : D). role.Listen) listen ++ map (λ (d : D). role.Edit) edit ≡ roles_of serving
roles_are {D} serving listen edit w e = λ i. sym (splat_is_map listen serving.workers role.Listen w) i ++ sym (splat_is_map edit serving.editors role.Edit e) i

-- one lock handle was joined for each worker
pub history_of : (serving : Serving) (opened : List Entry) (count : ℕ) (roles : List Role) (come : List (Option (List (List ℕ)))) (kept written written' : Option (List Returned)) (faults faults' : ℕ) (k : Pass)
    (history : List Entry) (links : List (List LinkReport)) (verdict : Verdict)
    → (g : HasGathered (settings_of serving) opened (count + 1) roles come kept written written' faults faults' k links verdict)
    → (count + 1 ≡ length (passes_in g.crew ++ []) + 1 → IsHistoryOf (length (passes_in g.crew ++ [])) history g.crew [])
    → count ≡ workers_of serving → count ≡ length roles → IsHistoryOf (workers_of serving) history g.crew []
history_of serving opened count roles come kept written written' faults faults' k history links verdict g one count_is as_many =
    let members : length (passes_in g.crew ++ []) ≡ count =
    ap length (append-nil (passes_in g.crew)) ∙ (length-map g.crew (λ s. s.pass) ∙ (sym (length-map g.crew (λ s. s.role)) ∙ (ap length g.roles_are ∙ sym as_many))) in
    subst (λ n. IsHistoryOf n history g.crew []) (members ∙ count_is) (one (ap (λ n. n + 1) (sym members)))

pub has_served : {D : Type 0} (serving : Serving) (opened : List Entry) (kept : List Entry → Bool → Type 0) (front : List ℕ) (start mid now : NetSeen) (before first after : OutputSeen) (left : ServeOutcome)
    (coming : D → Option (List (List ℕ))) (listen edit : List D)
    (count : ℕ) (roles : List Role) (come : List (Option (List (List ℕ)))) (k : Pass) (history : List Entry) (links : List (List LinkReport)) (verdict : Verdict)
    → HasOpened serving start mid (length listen) (length edit) (map coming (listen ++ edit))
    → (g : HasGathered (settings_of serving) opened (count + 1) roles come start.written mid.written now.written mid.faults now.faults k links verdict)
    → IsHistoryOf (workers_of serving) history g.crew [] → kept history (has_end FileFault (map (λ (s : WorkerRun (settings_of serving) opened). s.end) g.crew))
    → roles ≡ map (λ (d : D). role.Listen) listen ++ map (λ (d : D). role.Edit) edit → come ≡ map coming (listen ++ edit) → now.asked ≡ mid.asked
    → left.history ≡ Some history → IsWhole history → left.links ≡ links → IsWritten before first front → WritesEnd (ended_line (revision (batches history)) links) verdict first after left.status
    → HasServed serving opened kept front start now before after left
has_served serving opened kept front start mid now before first after left coming listen edit count roles come k history links verdict opens g one kept_so roles_is come_is asked history_is whole_history links_is wrote told = record {
  history = history;
  history_is = history_is;
  whole_history = whole_history;
  crew = g.crew;
  roles = g.roles_are ∙ (roles_is ∙ roles_are serving listen edit opens.listening opens.editing);
  links = links_is ∙ g.links_are;
  one = one;
  to_come = subst (HaveLinks start.listener_links) (sym (g.coming_are ∙ come_is)) opens.links;
  asked = subst (λ a. Grows start.asked a (places_of serving)) (sym asked) opens.asked.asked;
  written = g.written_grows opens.asked.written;
  counts = subst (λ n. CountsListenerFaults n now.faults (map (λ worker_run. worker_run.end) g.crew)) opens.faultless g.counts;
  kept_so = kept_so;
  at_line = first;
  line_written = wrote;
  told = subst (λ l. WritesEnd (ended_line (revision (batches history)) l) (verdict_of (map (λ worker_run. worker_run.end) g.crew)) first after left.status) (sym links_is)
      (subst (λ v. WritesEnd (ended_line (revision (batches history)) links) v first after left.status) g.verdict_is told);
  whole = whole_by history g.crew (ended_line (revision (batches history)) links) verdict first after left.status one.parts g.verdict_is told;
}
