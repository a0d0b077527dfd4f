use Rattle.std.proofs.Common.{◌++◌, ◌∷◌, [], Some, map, sym, subst, ap, ◌∙◌, rules, ◌≡◌}
use Rattle.std.specs.Option.{option_to_list}
use Rattle.share_asks.specs.declared.ask.Role.TheVariants as role
use Rattle.share_lock.specs.Passes.{lock_id, known}
use Rattle.share_crew.specs.Crews.{AddsWorkers, IsStaff}
use Rattle.share_crew.proofs.Staffing.{staff}
use Rattle.serve_command.proofs.shares.assign_workers.Goals as goal

pub returns-clause-staff : goal.returns-clause-staff
returns-clause-staff g c =
    let id = lock_id c.args.begun.lock in
    let listen = c.args.listeners.listen.items in
    let edit = c.args.listeners.edit.items in
    let mid = c.add_workers.new.crew.items in
    let crew = c.add_workers-2.new.crew.items in
    let k = known c.args.begun.first in
    let some : c.pop.result ≡ Some c.unwrap-last.result = search rules in
    let all : crew ≡ c.pop.new.self.items ++ c.unwrap-last.result ∷ [] = c.pop.ensures.items ∙ ap (λ o. c.pop.new.self.items ++ option_to_list o) some in
    subst (λ l. IsStaff id (known c.add_workers-2.new.first) (map (λ listener. role.Listen) listen ++ map (λ listener. role.Edit) edit) (listen ++ edit) l) all
    (subst (λ p. IsStaff id p (map (λ listener. role.Listen) listen ++ map (λ listener. role.Edit) edit) (listen ++ edit) crew) (sym (c.add_workers-2.ensures.pass ∙ c.add_workers.ensures.pass))
    (staff id k role.Listen role.Edit listen edit mid crew (subst (λ l. AddsWorkers id k role.Listen listen l mid) c.requires.empty c.add_workers.ensures.hired)
    (subst (λ p. AddsWorkers id p role.Edit edit mid crew) c.add_workers.ensures.pass c.add_workers-2.ensures.hired)))
