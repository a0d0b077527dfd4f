use Rattle.std.proofs.Common.{rules, ◌≡◌, ◌-◌, [], ◌∷◌, ◌++◌, map, length, refl, sym, subst, ap, ◌∙◌, arith, append_assoc, append-nil}
use Rattle.std.proofs.lemmas.List.{nil_from_length, map-append}
use Rattle.std.specs.List.{AllZip}
use Rattle.std.specs.Prelude.{All}
use Rattle.std.specs.Vec.Iter.{into_iter_items}
use Rattle.share_lock.specs.Passes.{lock_id, known, IsReady}
use Rattle.share_crew.specs.Crews.{IsOf, HasJoined, HasClosedListeners}
use Rattle.share_crew.specs.WorkerRuns.{passes_in}
use Rattle.share_crew.proofs.Joining.{all_head, all_tail, last_of, none_joined, joined_one, none_shut, shut_more, none_zip}
use Rattle.share_crew.proofs.gathering.join_each.Goals as goal

pub loop-worker-init : goal.loop-worker-init
loop-worker-init g c =
    let all : into_iter_items c.into_iter-worker-iterator.result ≡ c.args.crew.items = search rules in record {
      ready = c.requires.first;
      others = subst (All (λ w. IsReady (lock_id c.args.lock.now) w.pass)) (sym all) c.requires.crew;
      joined = λ settings opening worker_runs zip. subst (λ l. HasJoined (known c.args.first.now) (known c.args.first.now) (passes_in l)) (sym (none_zip (IsOf {settings = settings} {opening = opening} g.N.D.Listener.written g.N.D.Faulted.faults) worker_runs zip)) (none_joined (known c.args.first.now));
      shut = λ settings opening worker_runs zip. subst (HasClosedListeners (g.N.Net.written c.args.net.now) (g.N.Net.written c.args.net.now) (g.N.Faulted.faults c.args.net.now) (g.N.Faulted.faults c.args.net.now))
          (sym (none_zip (IsOf {settings = settings} {opening = opening} g.N.D.Listener.written g.N.D.Faulted.faults) worker_runs zip)) (none_shut (g.N.Net.written c.args.net.now) (g.N.Faulted.faults c.args.net.now));
      asked = refl;
      open_so_far = ap (λ l. g.N.Net.open_count c.args.net.now - length l) all;
      kept = sym (append-nil (map (λ reports. reports.items) c.args.links.now.items));
      capacity = refl;
      room = search rules;
      items = search rules;
    }

pub loop-worker-preserved : goal.loop-worker-preserved
loop-worker-preserved g c =
    let inv = c.loop-worker.invariant in
    let worker = c.in-Some.worker in record {
      ready = c.join.ensures.ready;
      others = all_tail (λ w. IsReady (lock_id c.args.lock.now) w.pass) worker _ _ c.in-Some.ensures.steps.0 inv.others;
      joined = λ settings opening worker_runs zip.
          let parts = last_of (IsOf {settings = settings} {opening = opening} g.N.D.Listener.written g.N.D.Faulted.faults) worker_runs c.loop-worker.yielded worker zip in
          subst (λ l. HasJoined (known c.args.first.now) (known c.join.new.pass) (passes_in l)) (sym parts.are)
          (joined_one (known c.args.first.now) (known c.loop-worker.first) (known c.join.new.pass) (known worker.pass) parts.before parts.last (inv.joined settings opening parts.before parts.fits)
          parts.fits_last.pass_is c.join.ensures.pass c.join.ensures.first c.join.ensures.second c.join.ensures.apart);
      shut = λ settings opening worker_runs zip.
          let parts = last_of (IsOf {settings = settings} {opening = opening} g.N.D.Listener.written g.N.D.Faulted.faults) worker_runs c.loop-worker.yielded worker zip in
          subst (HasClosedListeners (g.N.Net.written c.args.net.now) (g.N.Net.written c.close_listener.new.self) (g.N.Faulted.faults c.args.net.now) (g.N.Faulted.faults c.close_listener.new.self)) (sym parts.are)
          (shut_more (g.N.Net.written c.args.net.now) (g.N.Net.written c.loop-worker.net) (g.N.Net.written c.close_listener.new.self) (g.N.D.Listener.written worker.listener)
          (g.N.Faulted.faults c.args.net.now) (g.N.Faulted.faults c.loop-worker.net) (g.N.Faulted.faults c.close_listener.new.self) (g.N.D.Faulted.faults worker.listener) parts.before parts.last
          (inv.shut settings opening parts.before parts.fits) parts.fits_last.written_is parts.fits_last.faults_are c.close_listener.ensures.written_grows c.close_listener.ensures.count);
      asked = c.close_listener.ensures.asked_stays ∙ inv.asked;
      open_so_far = let count = ap length c.in-Some.ensures.steps.0 in let so_far = inv.open_so_far in let closes = c.close_listener.ensures.closes in omega (arith, count, so_far, closes);
      kept = ap (map (λ reports. reports.items)) c.push_reserved.ensures.items
          ∙ map-append (λ reports. reports.items) c.loop-worker.links.items (worker.reports ∷ [])
          ∙ ap (λ l. l ++ worker.reports.items ∷ []) inv.kept
          ∙ append_assoc (map (λ reports. reports.items) c.args.links.now.items) (map (λ w. w.reports.items) c.loop-worker.yielded) (worker.reports.items ∷ [])
          ∙ ap (λ l. map (λ reports. reports.items) c.args.links.now.items ++ l) (sym (map-append (λ w. w.reports.items) c.loop-worker.yielded (worker ∷ [])));
      capacity = c.push_reserved.ensures.capacity ∙ inv.capacity;
      room = let count = ap length c.in-Some.ensures.steps.0 in let room = inv.room in omega (arith, count, room, c.push_reserved.ensures.len, c.push_reserved.ensures.capacity);
      items = append_assoc c.loop-worker.yielded (worker ∷ []) _ ∙ (ap (λ l. c.loop-worker.yielded ++ l) (sym c.in-Some.ensures.steps.0) ∙ inv.items);
    }

pub join-requires-clause-other : goal.join-requires-clause-other
join-requires-clause-other g c = all_head (λ w. IsReady (lock_id c.args.lock.now) w.pass) c.in-Some.worker _ _ c.in-Some.ensures.steps.0 c.loop-worker.invariant.others

pub push_reserved-requires : goal.push_reserved-requires
push_reserved-requires g c = let count = ap length c.in-Some.ensures.steps.0 in let room = c.loop-worker.invariant.room in omega (arith, count, room)

pub returns-clause-joined : goal.returns-clause-joined
returns-clause-joined g c = λ settings opening worker_runs zip.
    let none = nil_from_length _ (sym c.loop-worker.worker-iterator.rest.ok.0 ∙ c.in-None.ensures.steps.0) in
    let all = sym (append-nil c.loop-worker.yielded) ∙ (ap (λ l. c.loop-worker.yielded ++ l) (sym none) ∙ c.loop-worker.invariant.items) in
    c.loop-worker.invariant.joined settings opening worker_runs (subst (AllZip (IsOf g.N.D.Listener.written g.N.D.Faulted.faults) worker_runs) (sym all) zip)

pub returns-clause-shut : goal.returns-clause-shut
returns-clause-shut g c = λ settings opening worker_runs zip.
    let none = nil_from_length _ (sym c.loop-worker.worker-iterator.rest.ok.0 ∙ c.in-None.ensures.steps.0) in
    let all = sym (append-nil c.loop-worker.yielded) ∙ (ap (λ l. c.loop-worker.yielded ++ l) (sym none) ∙ c.loop-worker.invariant.items) in
    c.loop-worker.invariant.shut settings opening worker_runs (subst (AllZip (IsOf g.N.D.Listener.written g.N.D.Faulted.faults) worker_runs) (sym all) zip)

pub returns-clause-closes : goal.returns-clause-closes
returns-clause-closes g c =
    let none = sym c.loop-worker.worker-iterator.rest.ok.0 ∙ c.in-None.ensures.steps.0 in
    let so_far = c.loop-worker.invariant.open_so_far in
    omega (arith, none, so_far)

pub returns-clause-links : goal.returns-clause-links
returns-clause-links g c =
    let none = nil_from_length _ (sym c.loop-worker.worker-iterator.rest.ok.0 ∙ c.in-None.ensures.steps.0) in
    let all = sym (append-nil c.loop-worker.yielded) ∙ (ap (λ l. c.loop-worker.yielded ++ l) (sym none) ∙ c.loop-worker.invariant.items) in
    c.loop-worker.invariant.kept ∙ ap (λ l. map (λ reports. reports.items) c.args.links.now.items ++ map (λ w. w.reports.items) l) all
