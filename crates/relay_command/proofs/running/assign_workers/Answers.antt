use Rattle.std.proofs.Common.{◌∙◌}
use Rattle.share_asks.specs.declared.ask.Role.TheVariants as role
use Rattle.share_lock.specs.Passes.{known, lock_id}
use Rattle.relay_command.proofs.Staff.{hired_all, roles_all}
use Rattle.relay_command.proofs.running.assign_workers.Goals as goal

pub returns-clause-hired : goal.returns-clause-hired
returns-clause-hired g c =
    hired_all (lock_id c.args.begun.lock) (known c.args.begun.first) (known c.split.new.pass) role.Listen c.pop.new.self.items c.args.begun.room.crew.items c.add_workers.new.crew.items
    c.requires.empty (c.split.ensures.same.1 ∙ c.add_workers.ensures.pass) c.add_workers.ensures.hired

pub returns-clause-roles : goal.returns-clause-roles
returns-clause-roles g c =
    roles_all (lock_id c.args.begun.lock) (known c.args.begun.first) role.Listen c.pop.new.self.items c.args.begun.room.crew.items c.add_workers.new.crew.items c.requires.empty
    c.add_workers.ensures.hired
