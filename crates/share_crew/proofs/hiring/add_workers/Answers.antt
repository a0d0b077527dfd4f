use Rattle.std.proofs.Common.{rules, ◌≡◌, ◌<◌, ◌≤◌, [], ◌∷◌, ◌++◌, length, refl, sym, subst, ap, ◌∙◌, arith, append_assoc, append-nil, length-append}
use Rattle.std.proofs.lemmas.List.{nil_from_length}
use Rattle.share_lock.specs.Passes.{lock_id, known, IsReady}
use Rattle.share_lock.specs.Known.{fresh}
use Rattle.share_crew.specs.Crews.{AddsWorkers}
use Rattle.share_crew.proofs.Staffing.{none_hired, hire_more, is_hired}
use Rattle.share_crew.proofs.hiring.add_workers.Goals as goal

pub loop-listener-init : goal.loop-listener-init
loop-listener-init g c = record {
  ready = c.requires.ready;
  pass = refl;
  hired = none_hired (lock_id c.args.lock.now) (known c.args.first.now) c.args.role c.args.crew.now.items;
  counted = omega arith;
  capacity = refl;
  items = search rules;
  room = search rules;
}

pub loop-listener-preserved : goal.loop-listener-preserved
loop-listener-preserved g c =
    let id = lock_id c.args.lock.now in
    let k = known c.args.first.now in
    let inv = c.loop-listener.invariant in
    let listener = c.in-Some.listener in
    let worker = c.new_worker.result in
    let here = sym c.new_worker.ensures.pass in record {
      ready = c.new_pass-pass.ensures.first;
      pass = c.new_pass-pass.ensures.same ∙ inv.pass;
      hired = hire_more id k c.args.role c.loop-listener.yielded listener c.args.crew.now.items c.loop-listener.crew.items c.push_reserved.new.self.items worker inv.hired c.push_reserved.ensures.items
          (is_hired id k (known c.loop-listener.first) worker inv.pass
          (subst (λ p. IsReady id p) here c.new_pass-pass.ensures.ready)
          (subst (λ p. known p ≡ fresh (known p).number (known c.loop-listener.first).settings (known c.loop-listener.first).seen) here c.new_pass-pass.ensures.pass)
          (subst (λ p. 1 ≤ (known p).number) here c.new_pass-pass.ensures.some)
          (subst (λ p. (known p).number < id.1) here c.new_pass-pass.ensures.few)
          c.new_worker.ensures.unreported c.new_worker.ensures.running)
          c.new_worker.ensures.listener c.new_worker.ensures.role;
      counted = let more = length-append c.loop-listener.yielded (listener ∷ []) in let was = inv.counted in omega (arith, more, was, c.push_reserved.ensures.len);
      capacity = c.push_reserved.ensures.capacity ∙ inv.capacity;
      items = append_assoc c.loop-listener.yielded (listener ∷ []) _ ∙ (ap (λ l. c.loop-listener.yielded ++ l) (sym c.in-Some.ensures.steps.0) ∙ inv.items);
      room = let count = ap length c.in-Some.ensures.steps.0 in let room = inv.room in omega (arith, count, room, c.push_reserved.ensures.len, c.push_reserved.ensures.capacity);
    }

pub push_reserved-requires : goal.push_reserved-requires
push_reserved-requires g c = let count = ap length c.in-Some.ensures.steps.0 in let room = c.loop-listener.invariant.room in omega (arith, count, room)

pub returns-clause-hired : goal.returns-clause-hired
returns-clause-hired g c =
    let none = nil_from_length _ (sym c.loop-listener.listener-iterator.rest.ok.0 ∙ c.in-None.ensures.steps.0) in
    let all = sym (append-nil c.loop-listener.yielded) ∙ (ap (λ l. c.loop-listener.yielded ++ l) (sym none) ∙ c.loop-listener.invariant.items) in
    subst (λ l. AddsWorkers (lock_id c.args.lock.now) (known c.args.first.now) c.args.role l c.args.crew.now.items c.loop-listener.crew.items) all c.loop-listener.invariant.hired

pub returns-clause-len : goal.returns-clause-len
returns-clause-len g c =
    let none = nil_from_length _ (sym c.loop-listener.listener-iterator.rest.ok.0 ∙ c.in-None.ensures.steps.0) in
    let all = sym (append-nil c.loop-listener.yielded) ∙ (ap (λ l. c.loop-listener.yielded ++ l) (sym none) ∙ c.loop-listener.invariant.items) in
    let counted = c.loop-listener.invariant.counted in
    let count = ap length all in
    omega (arith, counted, count)
