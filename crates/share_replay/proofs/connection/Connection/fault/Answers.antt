use Rattle.std.proofs.Common.{sym, ap, ◌∙◌}
use Rattle.share_replay.specs.Connections.{asked_on, fault_on}
use Rattle.share_replay.proofs.ConnectionFacts.{fault_is}
use Rattle.share_replay.proofs.connection.Connection.fault.Goals as goal

pub returns : goal.returns
returns c =
    let a = c.self.inside in
    c.as_ref.ensures.value
    ∙ sym (fault_is a.intake a.served a.is_closed a.is_ended c.if-self.false c.self.invariant (ap asked_on c.self.view_is ∙ c.requires)) ∙ ap fault_on c.self.view_is
