use Rattle.std.proofs.Common.{sym, ap, ◌∙◌}
use Rattle.share_replay.specs.Connections.{asked_on}
use Rattle.share_replay.proofs.ConnectionFacts.{asked_is}
use Rattle.share_replay.proofs.connection.Connection.next.Goals as goal

pub returns-clause-asked : goal.returns-clause-asked
returns-clause-asked c =
    let a = c.self.inside in
    c.as_ref.ensures.value ∙ sym (asked_is a.intake a.served a.is_closed a.is_ended c.if-self.false c.self.invariant) ∙ ap asked_on c.self.view_is
