use Rattle.share_replay.proofs.ConnectionFacts.{took, within_of}
use Rattle.share_replay.proofs.connection.Connection.deliver.Goals as goal

pub take-requires : goal.take-requires
take-requires c = let a = c.self.inside in within_of a.intake a.served (c.self.invariant c.if-self-2.false)

pub invariant_of-self : goal.invariant_of-self
invariant_of-self c = λ going.
    let a = c.self.inside in took a.intake c.take.new.self a.served (c.self.invariant going) c.in-Ok.ensures.read c.take.ensures.within
