use Rattle.std.proofs.Common.{◌≡◌, true, is_some, sym, ap, ◌∙◌}
use Rattle.share_replay.specs.Connections.{Connection, asked_on}
use Rattle.share_replay.proofs.ConnectionFacts.{goes, passed_on, seen, within_of}
use Rattle.share_replay.proofs.connection.Connection.count.Goals as goal

pub pass-requires : goal.pass-requires
pass-requires c =
    let a = c.self.inside in
    let asked : is_some (asked_on (seen a.intake a.served a.is_closed a.is_ended)) ≡ true = ap (λ (x : Connection). is_some (asked_on x)) c.self.view_is ∙ c.requires.asked in
    within_of a.intake a.served (c.self.invariant (goes (seen a.intake a.served a.is_closed a.is_ended) asked))

pub invariant_of-self-then-not-self : goal.invariant_of-self-then-not-self
invariant_of-self-then-not-self c = λ going.
    let a = c.self.inside in
    passed_on a.intake c.pass.new.self c.args.self.now a.served a.is_closed a.is_ended c.args.last c.self.view_is c.self.invariant c.requires.asked
    (sym c.is_some.ensures ∙ c.if-is_some.false) c.requires.few c.in-Ok.ensures.read c.pass.ensures.within

pub invariant_of-self-2 : goal.invariant_of-self-2
invariant_of-self-2 c = λ going.
    let a = c.self.inside in
    passed_on a.intake c.pass.new.self c.args.self.now a.served a.is_closed a.is_ended c.args.last c.self.view_is c.self.invariant c.requires.asked
    (sym c.is_some.ensures ∙ c.if-is_some.false) c.requires.few c.in-Ok.ensures.read c.pass.ensures.within

pub invariant_of-self-3 : goal.invariant_of-self-3
invariant_of-self-3 c = λ going.
    let a = c.self.inside in
    passed_on a.intake c.pass.new.self c.args.self.now a.served a.is_closed a.is_ended c.args.last c.self.view_is c.self.invariant c.requires.asked
    (sym c.is_some.ensures ∙ c.if-is_some.false) c.requires.few c.in-Ok.ensures.read c.pass.ensures.within
