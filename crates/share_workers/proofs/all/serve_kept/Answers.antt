use Rattle.std.proofs.Common.{◌≡◌, List, sym, subst, ◌∙◌}
use Rattle.std.proofs.lemmas.List.{with_items_is}
use Rattle.std.proofs.lemmas.List.Elements.{length_all_zip}
use Rattle.std.specs.List.{AllZip}
use Rattle.std.specs.Prelude.{All, false}
use Rattle.outside_net.specs.Bounds.{listeners}
use Rattle.share_lock.specs.Passes.{lock_id, IsReady}
use Rattle.share_workers.specs.declared.worker.Worker.{Worker}
use Rattle.share_workers.specs.Ends.{is_worker_loss}
use Rattle.share_workers.specs.Workers.{KeepsRole, WorksToEnd}
use Rattle.share_workers.proofs.all.serve_kept.Goals as goal

pub returns-clause-ready : goal.returns-clause-ready
returns-clause-ready g c =
    subst (λ (ws : List (Worker g.row.D.Denot)). All (λ (w : Worker g.row.D.Denot). IsReady (lock_id c.args.lock.now) w.pass) ws) (sym (with_items_is c.args.workers.now c.serve_beside.new.workers (sym (length_all_zip (KeepsRole {D = g.row.D.Denot}) c.as_mut_slice.result.now c.serve_beside.new.workers c.serve_beside.ensures.roles) ∙ c.as_mut_slice.ensures.len))) c.serve_beside.ensures.ready

pub returns-clause-whole : goal.returns-clause-whole
returns-clause-whole g c =
    subst (λ (ws : List (Worker g.row.D.Denot)). All (λ (w : Worker g.row.D.Denot). is_worker_loss w.end ≡ false) ws) (sym (with_items_is c.args.workers.now c.serve_beside.new.workers (sym (length_all_zip (KeepsRole {D = g.row.D.Denot}) c.as_mut_slice.result.now c.serve_beside.new.workers c.serve_beside.ensures.roles) ∙ c.as_mut_slice.ensures.len))) c.serve_beside.ensures.whole

pub returns-clause-roles : goal.returns-clause-roles
returns-clause-roles g c =
    let R : Worker g.row.D.Denot → Worker g.row.D.Denot → Type 0 = KeepsRole in
    subst (λ (ws : List (Worker g.row.D.Denot)). AllZip R c.args.workers.now.items ws) (sym (with_items_is c.args.workers.now c.serve_beside.new.workers (sym (length_all_zip (KeepsRole {D = g.row.D.Denot}) c.as_mut_slice.result.now c.serve_beside.new.workers c.serve_beside.ensures.roles) ∙ c.as_mut_slice.ensures.len)))
    (subst (λ (ws : List (Worker g.row.D.Denot)). AllZip R ws c.serve_beside.new.workers) c.as_mut_slice.ensures.value c.serve_beside.ensures.roles)

pub returns-clause-served : goal.returns-clause-served
returns-clause-served g c =
    let R : Worker g.row.D.Denot → Worker g.row.D.Denot → Type 0 = WorksToEnd (listeners g.D.Listener g.D.Faulted) in
    subst (λ (ws : List (Worker g.row.D.Denot)). AllZip R c.args.workers.now.items ws) (sym (with_items_is c.args.workers.now c.serve_beside.new.workers (sym (length_all_zip (KeepsRole {D = g.row.D.Denot}) c.as_mut_slice.result.now c.serve_beside.new.workers c.serve_beside.ensures.roles) ∙ c.as_mut_slice.ensures.len)))
    (subst (λ (ws : List (Worker g.row.D.Denot)). AllZip R ws c.serve_beside.new.workers) c.as_mut_slice.ensures.value c.serve_beside.ensures.served)

pub serve_beside-requires-clause-keeper_begins : goal.serve_beside-requires-clause-keeper_begins
serve_beside-requires-clause-keeper_begins g c κs within = c.requires.keeper_begins

pub serve_beside-requires-clause-going : goal.serve_beside-requires-clause-going
serve_beside-requires-clause-going g c κs within = c.requires.going

pub returns-clause-keeper_ready : goal.returns-clause-keeper_ready
returns-clause-keeper_ready g c = c.serve_beside.ensures.keeper_ready

pub returns-clause-keeper_role : goal.returns-clause-keeper_role
returns-clause-keeper_role g c = c.serve_beside.ensures.keeper_role

pub returns-clause-keeper_served : goal.returns-clause-keeper_served
returns-clause-keeper_served g c = c.serve_beside.ensures.keeper_served

pub returns-clause-keeping : goal.returns-clause-keeping
returns-clause-keeping g c = c.serve_beside.ensures.keeping
