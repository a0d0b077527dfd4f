use Rattle.std.proofs.Common.{◌≡◌, ◌+◌, ◌||◌, [], ◌∷◌, ◌++◌, ℕ, List, map, length, refl, sym, subst, ap, ◌∙◌, arith, length-append, nat_lt, option_map, Option}
use Rattle.std.proofs.lemmas.List.{length-map, map-append}
use Rattle.std.proofs.lemmas.Simd.{map-map, splat_is_map}
use Rattle.std.specs.List.{AllByRecursion, flat_map}
use Rattle.outside_net.specs.Told.{BeginsEmpty, Grows}
use Rattle.command_core.specs.Seen.{NetSeen, OutputSeen, net_seen, output_seen}
use Rattle.item_model.specs.declared.changes.Entry.{Entry}
use Rattle.link_commands.specs.Linked.{LinkSeen, link_seen, start_of}
use Rattle.share_asks.specs.declared.ask.Role.TheVariants as role
use Rattle.share_history.specs.Histories.{batches, revision}
use Rattle.share_lock.specs.Known.{fresh}
use Rattle.share_lock.specs.Passes.{known, lock_id, passes_of}
use Rattle.share_server.specs.Passes.{Pass}
use Rattle.share_workers.specs.declared.worker.WorkerEnd.TheVariants.{AcceptFault}
use Rattle.share_crew.specs.Crews.{HasJoined}
use Rattle.share_crew.specs.Listeners.{AreNew, CountsListenerFaults, HaveLinks, IsNew}
use Rattle.share_crew.specs.WorkerRuns.{IsHistoryOf, IsNumbered, passes_in, returns_of}
use Rattle.share_crew.specs.Verdicts.{has_end, verdict_of}
use Rattle.share_crew.proofs.Ending.{wholes_by}
use Rattle.share_crew.proofs.Joining.{join_more}
use Rattle.relay_share.specs.Ends.{HasRelayed, is_fault}
use Rattle.relay_command.specs.Faults.{crew_fault, end_fault, worse_of}
use Rattle.relay_command.specs.Runs.{WritesEnd, last_lines}
use Rattle.relay_command.specs.Terms.{places_of, settings_of}
use Rattle.relay_command.proofs.Nets.{counts_all, have_front, linked_behind, shut_behind}
use Rattle.relay_command.proofs.Staff.{all_push, front_of, last_of_all}
use Rattle.relay_command.proofs.Staying.{relay_stays}
use Rattle.relay_command.proofs.Success.{crew_done, end_none}
use Rattle.relay_command.proofs.running.relay_locked.Goals as goal

pub returns-clause-serves : goal.returns-clause-serves
returns-clause-serves g c = λ start before first front begun opens new wrote.
    let coming = g.N.D.Listener.coming in
    let written = g.N.D.Listener.written in
    let faults = g.N.D.Faulted.faults in
    let relaying = c.args.relaying.now in
    let settings = settings_of relaying in
    let r = c.assign_workers-begun.result in
    let e = c.assign_workers-begun.ensures in
    let crew = r.0.room.crew.items in
    let after = c.run_workers-lock.new.partner in
    let w = c.run_workers-lock.ensures.partner in
    let k0 = known r.1 in
    let k1 = known after.pass in
    let all_listeners : AreNew written faults start.written (map (λ w. w.listener) crew ++ r.2 ∷ []) = subst (AreNew written faults start.written) e.listeners new in
    let crew_listeners = front_of (IsNew written faults start.written) (map (λ w. w.listener) crew) r.2 all_listeners in
    let last_listener = last_of_all (IsNew written faults start.written) (map (λ w. w.listener) crew) r.2 all_listeners in
    let began : known r.0.first ≡ fresh 0 settings [] = e.pass ∙ begun.pass in
    let all = c.run_workers-lock.ensures.gathered settings [] start.written began crew_listeners in
    let fresh_pass : k0 ≡ fresh k0.number settings [] = e.relay_pass ∙ ap (λ (p : Pass). fresh k0.number p.settings p.seen) begun.pass in
    let link : LinkSeen = link_seen (g.N.L.Sink.taken c.args.places.link) (g.N.L.Source.left c.args.places.link) (g.N.L.Sink.taken after.link) (g.N.L.Faulted.faults after.link) in
    let stays = relay_stays relaying.upstream relaying.rounds (start_of link) link.taken k0 k1 after.report w.1 in
    let number : k1.number ≡ k0.number = ap (λ (p : Pass). p.number) stays in
    let alone : k1.taken_in ≡ [] = ap (λ (p : Pass). p.taken_in) stays ∙ ap (λ (p : Pass). p.taken_in) fresh_pass in
    let members = passes_in all.crew ++ k1 ∷ [] in
    let history = c.share_of-share.result.history in
    let joined : HasJoined (fresh 0 settings []) (known c.join.new.pass) members =
    join_more (fresh 0 settings []) (known c.run_workers-lock.result.first) (known c.join.new.pass) k1 (passes_in all.crew) all.joined alone c.join.ensures.pass c.join.ensures.first
    c.join.ensures.second c.join.ensures.apart in
    let listeners_count : length crew + 1 ≡ relaying.workers + 1 =
    sym (length-append (map (λ w. w.listener) crew) (r.2 ∷ []) ∙ ap (λ n. n + 1) (length-map crew (λ w. w.listener))) ∙ ap length (sym e.listeners) ∙ c.requires.listeners in
    let crew_count : length crew ≡ relaying.workers = omega (arith, listeners_count) in
    let worker_run_count : length (passes_in all.crew) ≡ length crew =
    length-map all.crew (λ s. s.pass) ∙ sym (length-map all.crew (λ s. s.role)) ∙ ap length all.roles_are ∙ length-map crew (λ w. w.role) in
    let member_count : length members ≡ relaying.workers + 1 = length-append (passes_in all.crew) (k1 ∷ []) ∙ ap (λ n. n + 1) (worker_run_count ∙ crew_count) in
    let passes : passes_of c.run_workers-lock.result.lock ≡ relaying.workers + 2 = ap (λ l. l.1) c.run_workers-lock.ensures.lock ∙ (ap (λ l. l.1) e.lock ∙ begun.passes) in
    let same_passes : passes_of r.0.lock ≡ passes_of c.run_workers-lock.result.lock = sym (ap (λ l. l.1) c.run_workers-lock.ensures.lock) in
    let begun_passes : passes_of c.args.begun.lock ≡ passes_of c.run_workers-lock.result.lock = sym (ap (λ l. l.1) e.lock) ∙ same_passes in
    let some = e.relay_some in
    let few = e.relay_few in
    let mine : IsNumbered (passes_of c.run_workers-lock.result.lock) k1 = (omega (arith, number, some), omega (arith, number, few, begun_passes)) in
    let numbered : AllByRecursion (IsNumbered (passes_of c.run_workers-lock.result.lock)) members =
    all_push (IsNumbered (passes_of c.run_workers-lock.result.lock)) (passes_in all.crew) k1
    (subst (λ n. AllByRecursion (IsNumbered n) (passes_in all.crew)) same_passes all.numbered) mine in
    let one : IsHistoryOf (length members) history all.crew (k1 ∷ []) =
    c.share_of-share.ensures settings [] all.crew (k1 ∷ []) (λ k d less. absurd (omega (arith, less))) joined numbered (omega (arith, passes, member_count)) in
    let history_of : IsHistoryOf (relaying.workers + 1) history all.crew (k1 ∷ []) = subst (λ n. IsHistoryOf n history all.crew (k1 ∷ [])) member_count one in
    let ends = map (λ worker_run. worker_run.end) all.crew in
    let old = c.args.net.now in
    let n1 = c.run_workers-lock.new.net in
    let n2 = c.close_listener.new.self in
    let n3 = c.close.new.self in
    let fault = worse_of (crew_fault (verdict_of ends)) (end_fault after.report.end) in
    let ruled : c.worse_fault.result ≡ fault = c.worse_fault.ensures ∙ ap (λ v. worse_of (crew_fault v) (end_fault after.report.end)) all.verdict_is in
    let at_line : OutputSeen = output_seen (g.W.Sink.taken c.args.output.now) (g.W.Faulted.faults c.args.output.now) in
    let ending : OutputSeen = output_seen (g.W.Sink.taken c.finish.new.output) (g.W.Faulted.faults c.finish.new.output) in
    let told : WritesEnd (last_lines (revision (batches history)) c.finish.result.links after.report.rounds.items fault) fault at_line ending c.finish.result.status =
    subst (λ f. WritesEnd (last_lines (revision (batches history)) c.finish.result.links after.report.rounds.items f) f at_line ending c.finish.result.status) ruled
    (subst (λ l. WritesEnd (last_lines (revision (batches history)) l after.report.rounds.items c.worse_fault.result) c.worse_fault.result at_line ending c.finish.result.status) (sym c.finish.ensures.left.links_are)
    (subst (λ rs. WritesEnd (last_lines (revision (batches history)) c.run_workers-lock.result.links rs c.worse_fault.result) c.worse_fault.result at_line ending c.finish.result.status) c.as_slice.ensures.value
    c.finish.ensures.told)) in
    record {
      history = history;
      history_is = c.finish.ensures.left.history_is;
      whole_history = c.finish.ensures.left.whole;
      crew = all.crew;
      roles = all.roles_are ∙ (e.roles ∙ sym (splat_is_map crew relaying.workers role.Listen crew_count));
      links = c.finish.ensures.left.links_are ∙ all.links_are;
      relay = record { pass = k1; link = link; report = after.report };
      one = history_of;
      begun = opens.begun;
      input = opens.input;
      relayed =
          subst (λ (p : Pass). HasRelayed relaying.upstream relaying.rounds (start_of link) link.taken p k1 after.report)
          (fresh_pass ∙ ap (λ n. fresh n settings []) (sym number)) w.1;
      to_come =
          subst (HaveLinks start.listener_links) (sym all.coming_are)
          (have_front start.listener_links (map (λ w. coming w.listener) crew) (coming r.2)
          (subst (HaveLinks start.listener_links)
          (ap (map coming) e.listeners ∙ (map-append coming (map (λ w. w.listener) crew) (r.2 ∷ []) ∙ ap (λ l. l ++ coming r.2 ∷ []) (map-map coming (λ w. w.listener) crew))) opens.links));
      asked =
          subst (λ a. Grows start.asked a (places_of relaying)) (sym (c.close.ensures.asked_stays ∙ (c.close_listener.ensures.asked_stays ∙ c.run_workers-lock.ensures.asked))) opens.asked;
      written =
          linked_behind start.written (g.N.Net.written n2) (g.N.Net.written n3) (flat_map returns_of all.crew) link.taken link.faults
          (shut_behind start.written (g.N.Net.written n1) (g.N.Net.written n2) (written after.listener) (flat_map returns_of all.crew)
          (subst (BeginsEmpty start.written) (sym w.3) last_listener.unwritten) (all.written_grows opens.written) c.close_listener.ensures.written_grows)
          c.close.ensures.written_grows;
      counts =
          counts_all (has_end AcceptFault ends) (is_fault after.report.end) start.faults (g.N.Faulted.faults n1) (g.N.Faulted.faults n2) (g.N.Faulted.faults n3)
          (g.N.L.Faulted.faults c.args.places.link) link.faults (subst (λ n. CountsListenerFaults n (g.N.Faulted.faults n1) ends) opens.faultless all.counts)
          (c.close_listener.ensures.count.faultless (w.4 ∙ last_listener.faultless)) opens.fresh w.2 c.close.ensures.count;
      at_line = at_line;
      line_written = wrote;
      told = told;
      whole = λ success.
          wholes_by history all.crew history_of.parts
          (crew_done (verdict_of ends) (end_fault after.report.end) (end_none (last_lines (revision (batches history)) c.finish.result.links after.report.rounds.items fault) fault at_line ending c.finish.result.status told success));
    }

pub returns-clause-closes : goal.returns-clause-closes
returns-clause-closes g c =
    let listeners = ap length c.assign_workers-begun.ensures.listeners in
    let crew = length-append (map (λ w. w.listener) c.assign_workers-begun.result.0.room.crew.items) (c.assign_workers-begun.result.2 ∷ []) in
    let count = length-map c.assign_workers-begun.result.0.room.crew.items (λ w. w.listener) in
    omega (arith, listeners, crew, count, c.run_workers-lock.ensures.closes, c.close_listener.ensures.closes, c.close.ensures.closes)
