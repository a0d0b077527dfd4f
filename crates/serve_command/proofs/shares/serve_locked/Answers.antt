use Rattle.std.proofs.Common.{◌≡◌, ◌+◌, [], ◌∷◌, ◌++◌, map, length, sym, subst, ap, ◌∙◌, append-nil, arith, length-append}
use Rattle.std.proofs.lemmas.List.{length-map}
use Rattle.std.proofs.lemmas.List.Elements.{All-append, All-push, AllZip-push}
use Rattle.std.proofs.lemmas.Simd.{map-map}
use Rattle.std.proofs.lemmas.Slice.Zip.{AllZip-long}
use Rattle.std.specs.List.{AllByRecursion, AllZip}
use Rattle.std.specs.Prelude.{All, vec_capacity}
use Rattle.share_lock.specs.Known.{fresh}
use Rattle.share_lock.specs.Passes.{IsReady, known, lock_id, passes_of}
use Rattle.share_workers.specs.declared.worker.Worker.{Worker}
use Rattle.share_crew.specs.Crews.{HasEnded, HasJoined, IsNewWorker, IsOf}
use Rattle.share_crew.specs.Listeners.{AreNew, IsNew}
use Rattle.share_crew.specs.Gathered.{HasGathered}
use Rattle.share_crew.specs.WorkerRuns.{IsNumbered, passes_in}
use Rattle.command_core.specs.Seen.{NetSeen, OutputSeen, net_seen, output_seen}
use Rattle.serve_command.specs.Files.{HasKept}
use Rattle.serve_command.specs.Outcomes.{outcome_of}
use Rattle.serve_command.specs.Terms.{settings_of, workers_of}
use Rattle.serve_command.proofs.Losing.{crew_keeps}
use Rattle.serve_command.proofs.Returning.{front_of, last_of_all}
use Rattle.serve_command.proofs.Whole.{has_served, history_of, roles_are}
use Rattle.serve_command.proofs.shares.serve_locked.Goals as goal

pub run_with_editor-requires-clause-ready : goal.run_with_editor-requires-clause-ready
run_with_editor-requires-clause-ready g c = λ κs bounds k d less.
    let r = c.assign_workers-begun.result in (front_of (IsNewWorker (lock_id r.0.lock) (known r.0.first)) r.0.room.crew.items r.1 c.assign_workers-begun.ensures.staff.hired k d less).ready

pub run_with_editor-requires-clause-running : goal.run_with_editor-requires-clause-running
run_with_editor-requires-clause-running g c = λ κs bounds k d less.
    let r = c.assign_workers-begun.result in (front_of (IsNewWorker (lock_id r.0.lock) (known r.0.first)) r.0.room.crew.items r.1 c.assign_workers-begun.ensures.staff.hired k d less).running

pub run_with_editor-requires-clause-unreported : goal.run_with_editor-requires-clause-unreported
run_with_editor-requires-clause-unreported g c = λ κs bounds k d less.
    let r = c.assign_workers-begun.result in (front_of (IsNewWorker (lock_id r.0.lock) (known r.0.first)) r.0.room.crew.items r.1 c.assign_workers-begun.ensures.staff.hired k d less).unreported

pub run_with_editor-requires-clause-keeper_ready : goal.run_with_editor-requires-clause-keeper_ready
run_with_editor-requires-clause-keeper_ready g c = λ κs bounds.
    let r = c.assign_workers-begun.result in (last_of_all (IsNewWorker (lock_id r.0.lock) (known r.0.first)) r.0.room.crew.items r.1 c.assign_workers-begun.ensures.staff.hired).ready

pub run_with_editor-requires-clause-keeper_running : goal.run_with_editor-requires-clause-keeper_running
run_with_editor-requires-clause-keeper_running g c = λ κs bounds.
    let r = c.assign_workers-begun.result in (last_of_all (IsNewWorker (lock_id r.0.lock) (known r.0.first)) r.0.room.crew.items r.1 c.assign_workers-begun.ensures.staff.hired).running

pub run_with_editor-requires-clause-keeper_unreported : goal.run_with_editor-requires-clause-keeper_unreported
run_with_editor-requires-clause-keeper_unreported g c = λ κs bounds.
    let r = c.assign_workers-begun.result in (last_of_all (IsNewWorker (lock_id r.0.lock) (known r.0.first)) r.0.room.crew.items r.1 c.assign_workers-begun.ensures.staff.hired).unreported

pub push_reserved-requires : goal.push_reserved-requires
push_reserved-requires g c =
    let count = AllZip-long _ _ _ c.run_with_editor.ensures.roles in
    omega (arith, count, c.run_with_editor.ensures.room, c.assign_workers-begun.ensures.room)

pub gather-lock-requires-clause-crew : goal.gather-lock-requires-clause-crew
gather-lock-requires-clause-crew g c = λ κs bounds.
    let id = lock_id c.assign_workers-begun.result.0.lock in
    subst (All (λ w. IsReady id w.pass)) (sym c.push_reserved.ensures.items)
    (All-push (λ w. IsReady id w.pass) c.run_with_editor.new.crew.items c.run_with_editor.new.worker c.run_with_editor.ensures.ready c.run_with_editor.ensures.keeper_ready)

pub gather-lock-requires-clause-room : goal.gather-lock-requires-clause-room
gather-lock-requires-clause-room g c =
    let count = AllZip-long _ _ _ c.run_with_editor.ensures.roles in
    let len = c.assign_workers-begun.ensures.len in
    let room = ap (λ l. vec_capacity l) c.assign_workers-begun.ensures.links in
    omega (arith, count, len, room, c.push_reserved.ensures.len, c.requires.links)

pub finish-requires-clause-links : goal.finish-requires-clause-links
finish-requires-clause-links g c =
    let r = c.assign_workers-begun.result in
    let R = HasEnded g.N.D.Listener.coming g.N.D.Listener.written g.N.D.Faulted.faults in
    let zip = subst (λ l. AllZip R (r.0.room.crew.items ++ r.1 ∷ []) l) (sym c.push_reserved.ensures.items)
    (AllZip-push R r.0.room.crew.items c.run_with_editor.new.crew.items r.1 c.run_with_editor.new.worker c.run_with_editor.ensures.served c.run_with_editor.ensures.keeper_served) in
    let more = length-append r.0.room.crew.items (r.1 ∷ []) in
    c.gather-lock.ensures.links (r.0.room.crew.items ++ r.1 ∷ []) zip (omega (arith, more, c.assign_workers-begun.ensures.len, c.requires.few))

pub finish-requires-clause-requests : goal.finish-requires-clause-requests
finish-requires-clause-requests g c =
    let r = c.assign_workers-begun.result in
    let R = HasEnded g.N.D.Listener.coming g.N.D.Listener.written g.N.D.Faulted.faults in
    let zip = subst (λ l. AllZip R (r.0.room.crew.items ++ r.1 ∷ []) l) (sym c.push_reserved.ensures.items)
    (AllZip-push R r.0.room.crew.items c.run_with_editor.new.crew.items r.1 c.run_with_editor.new.worker c.run_with_editor.ensures.served c.run_with_editor.ensures.keeper_served) in
    let more = length-append r.0.room.crew.items (r.1 ∷ []) in
    c.gather-lock.ensures.requests (r.0.room.crew.items ++ r.1 ∷ []) zip (omega (arith, more, c.assign_workers-begun.ensures.len, c.requires.few))

pub returns-clause-serves : goal.returns-clause-serves
returns-clause-serves g c = λ serving opened start before front begun first at wrote.
    let opens = at.opened in
    let coming = g.N.D.Listener.coming in
    let written = g.N.D.Listener.written in
    let faults = g.N.D.Faulted.faults in
    let listen = c.args.listeners.listen.items in
    let edit = c.args.listeners.edit.items in
    let r = c.assign_workers-begun.result in
    let id = lock_id r.0.lock in
    let crew = r.0.room.crew.items ++ r.1 ∷ [] in
    let after_crew = c.run_with_editor.new.crew.items ++ c.run_with_editor.new.worker ∷ [] in
    let R = HasEnded coming written faults in
    let Q : Worker _ → Worker _ → Type 0 = λ old new. new.role ≡ old.role in
    let old = c.args.net.now in
    let new = c.gather-lock.new.net in
    let mid : NetSeen = net_seen (g.N.Net.asked old) (g.N.Net.written old) (g.N.Net.listener_links old) (g.N.Net.next_input old) (g.N.Faulted.faults old) in
    let now : NetSeen = net_seen (g.N.Net.asked new) (g.N.Net.written new) (g.N.Net.listener_links new) (g.N.Net.next_input new) (g.N.Faulted.faults new) in
    let at_line : OutputSeen = output_seen (g.W.Sink.taken c.args.output.now) (g.W.Faulted.faults c.args.output.now) in
    let after : OutputSeen = output_seen (g.W.Sink.taken c.finish.new.output) (g.W.Faulted.faults c.finish.new.output) in
    let staff = c.assign_workers-begun.ensures.staff in
    let len : length crew ≡ length listen + length edit = length-append r.0.room.crew.items (r.1 ∷ []) ∙ c.assign_workers-begun.ensures.len in
    let count : length crew ≡ workers_of serving = len ∙ (λ i. opens.listening i + opens.editing i) in
    let passes : passes_of r.0.lock ≡ length crew + 1 = ap (λ l. l.1) c.assign_workers-begun.ensures.lock ∙ (begun.passes ∙ ap (λ n. n + 1) (sym count)) in
    let listeners : AreNew written faults start.written (map (λ w. w.listener) crew) =
    subst (AreNew written faults start.written) (sym staff.listeners_are) (All-append (IsNew written faults start.written) listen edit at.new_listen at.new_edit) in
    let roles = map (λ w. w.role) crew in
    let come = map (λ w. coming w.listener) crew in
    let k = known c.gather-lock.result.first in
    let start_pass = fresh 0 (settings_of serving) opened in
    let served = subst (λ l. AllZip R crew l) (sym c.push_reserved.ensures.items) (AllZip-push R r.0.room.crew.items c.run_with_editor.new.crew.items r.1 c.run_with_editor.new.worker c.run_with_editor.ensures.served c.run_with_editor.ensures.keeper_served) in
    let same_roles = subst (λ l. AllZip Q crew l) (sym c.push_reserved.ensures.items) (AllZip-push Q r.0.room.crew.items c.run_with_editor.new.crew.items r.1 c.run_with_editor.new.worker c.run_with_editor.ensures.roles c.run_with_editor.ensures.keeper_role) in
    let pair = c.gather-lock.ensures.gathered (settings_of serving) opened start.written crew (c.assign_workers-begun.ensures.pass ∙ begun.pass) staff.hired listeners served same_roles in
    let both = subst (λ n. (q : HasGathered (settings_of serving) opened n roles come start.written mid.written now.written mid.faults now.faults k c.gather-lock.result.links c.gather-lock.result.verdict)
    × AllZip (IsOf written faults) q.crew c.push_reserved.new.self.items) passes pair in
    let all = both.0 in
    let members = append-nil (passes_in all.crew) in
    let count_of : passes_of c.gather-lock.result.lock ≡ length crew + 1 = ap (λ l. l.1) c.gather-lock.ensures.lock ∙ passes in
    let numbered = subst (λ n. AllByRecursion (IsNumbered n) (passes_in all.crew)) (sym count_of) all.numbered in
    let history = c.share_of-share.result.history in
    let one = history_of serving opened (length crew) roles come start.written mid.written now.written mid.faults now.faults k history c.gather-lock.result.links c.gather-lock.result.verdict all
    (λ is. c.share_of-share.ensures (settings_of serving) opened all.crew [] first (subst (HasJoined start_pass k) (sym members) all.joined)
    (subst (AllByRecursion (IsNumbered (passes_of c.gather-lock.result.lock))) (sym members) numbered) (count_of ∙ is)) count (sym (length-map crew (λ w. w.role))) in
    let last = last_of_all (IsNewWorker id (known r.0.first)) r.0.room.crew.items r.1 staff.hired in
    let seen : (known r.1.pass).seen ≡ opened = ap (λ p. p.seen) last.pass ∙ ap (λ p. p.seen) (c.assign_workers-begun.ensures.pass ∙ begun.pass) in
    has_served serving opened (HasKept serving.editors (g.K.Keeps.keeps c.args.keeper) (g.K.Keeps.keeps c.run_with_editor.new.keeper) (g.K.Keeps.is_lost c.run_with_editor.new.keeper) (g.K.Keeps.faults c.args.keeper) (g.K.Keeps.faults c.run_with_editor.new.keeper) opened)
    front start mid now before at_line after (outcome_of c.finish.result) coming listen edit (length crew) roles come
    k history c.gather-lock.result.links c.gather-lock.result.verdict opens all one
    (crew_keeps written faults history all.crew c.run_with_editor.new.crew.items c.run_with_editor.new.worker (workers_of serving) serving.workers serving.editors (known r.1.pass)
    (g.K.Keeps.keeps c.args.keeper) (g.K.Keeps.keeps c.run_with_editor.new.keeper) (g.K.Keeps.is_lost c.run_with_editor.new.keeper) (g.K.Keeps.faults c.args.keeper) (g.K.Keeps.faults c.run_with_editor.new.keeper)
    (subst (λ l. AllZip (IsOf written faults) all.crew l) c.push_reserved.ensures.items both.1) c.run_with_editor.ensures.whole (all.roles_are ∙ (staff.roles_are ∙ roles_are serving listen edit opens.listening opens.editing)) first one seen c.run_with_editor.ensures.keeping)
    staff.roles_are (sym (map-map coming (λ w. w.listener) crew) ∙ ap (map coming) staff.listeners_are) c.gather-lock.ensures.asked c.finish.ensures.left.history_is c.finish.ensures.left.whole c.finish.ensures.left.links_are
    wrote c.finish.ensures.told

pub returns-clause-closes : goal.returns-clause-closes
returns-clause-closes g c =
    let count = AllZip-long _ _ _ c.run_with_editor.ensures.roles in
    omega (arith, count, c.assign_workers-begun.ensures.len, c.push_reserved.ensures.len, c.gather-lock.ensures.closes)
