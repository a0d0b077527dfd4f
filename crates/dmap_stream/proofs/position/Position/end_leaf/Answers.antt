use Rattle.std.proofs.Common.{refl}
use Rattle.dmap_stream.specs.declared.event.Event.TheVariants.{Leaf}
use Rattle.dmap_stream.proofs.Arrivals.{arrived}
use Rattle.dmap_stream.proofs.position.Position.end_leaf.Goals as goal

pub returns-clause-moves : goal.returns-clause-moves
returns-clause-moves c =
    λ rows limit. arrived rows limit _ c.args.self.now.around _ (Leaf c.args.code c.args.value c.args.self.now.start) _ _ _ refl c.arrive.ensures.after (λ rest. refl) c.arrive.ensures.short
