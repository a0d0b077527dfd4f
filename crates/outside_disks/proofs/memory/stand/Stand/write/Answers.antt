use Rattle.std.proofs.Common.{subst, sym}
use Rattle.outside_disks.specs.Disks.{Torn}
use Rattle.outside_disks.specs.declared.memory.stand.Change.TheVariants.{Write}
use Rattle.outside_disks.proofs.Images.{follows, torn_overlaid, torn_same}
use Rattle.outside_disks.proofs.memory.stand.Stand.write.Goals as goal

pub returns-then-is_done-clause-torn : goal.returns-then-is_done-clause-torn
returns-then-is_done-clause-torn c =
    follows (Write c.args.at _) _ _ _ _ _ c.push_reserved.ensures.items
    (subst (Torn c.args.at _ c.args.self.now.bytes.items) (sym c.put.ensures.put) (torn_overlaid _ _ c.args.at c.requires.inside))

pub returns-else-is_done-clause-torn : goal.returns-else-is_done-clause-torn
returns-else-is_done-clause-torn c =
    follows (Write c.args.at _) _ _ _ _ _ c.push_reserved.ensures.items (torn_same c.args.self.now.bytes.items c.args.at _)
