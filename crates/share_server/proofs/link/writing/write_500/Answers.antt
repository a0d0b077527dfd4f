use Rattle.std.proofs.Common.{ℕ, sym, subst}
use Rattle.share_server.specs.Written.{CountsMaybe}
use Rattle.share_server.proofs.link.writing.write_500.Goals as goal

-- the end after the reply is not a failure
pub returns-in-Ok-clause-count : goal.returns-in-Ok-clause-count
returns-in-Ok-clause-count g c =
    subst (λ (n : ℕ). CountsMaybe (g.K.Faulted.faults c.args.link.now) n c.args.due) (sym c.in-Ok.ensures.count)
    (c.requires.no_error (g.K.Faulted.faults c.args.link.now))
