use Rattle.std.proofs.Common.{subst, sym}
use Rattle.outside_disks.specs.Disks.{CutShort}
use Rattle.outside_disks.specs.declared.memory.stand.Change.TheVariants.{Cut}
use Rattle.outside_disks.proofs.Images.{follows, cut_taken, cut_same}
use Rattle.outside_disks.proofs.memory.stand.Stand.cut.Goals as goal

pub returns-then-is_done-clause-torn : goal.returns-then-is_done-clause-torn
returns-then-is_done-clause-torn c =
    follows (Cut c.args.len) _ _ _ _ _ c.push_reserved.ensures.items
    (subst (CutShort c.args.len c.args.self.now.bytes.items) (sym c.truncate.ensures.items) (cut_taken _ c.args.len))

pub returns-else-is_done-clause-torn : goal.returns-else-is_done-clause-torn
returns-else-is_done-clause-torn c =
    follows (Cut c.args.len) _ _ _ _ _ c.push_reserved.ensures.items (cut_same c.args.self.now.bytes.items c.args.len)
