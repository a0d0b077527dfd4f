use Rattle.std.proofs.Common.{refl}
use Rattle.dmap_stream.specs.declared.event.Event.TheVariants.{Open}
use Rattle.dmap_stream.proofs.Arrivals.{arrived}
use Rattle.dmap_stream.proofs.position.Position.open_list.Goals as goal

pub returns-clause-moves : goal.returns-clause-moves
returns-clause-moves c =
    λ rows limit. arrived rows limit _ _ _ (Open c.args.code c.args.len c.args.self.now.start) _ _ _ c.in_ok-push.ensures.ok c.arrive.ensures.after (λ rest. refl) c.arrive.ensures.short
