use Rattle.rehearsal.specs.Running.{Stands, Mirrors}
use Rattle.rehearsal.proofs.run.Run.play.Given as goal

abbrev pub invariant-loop-n : goal.invariant-loop-n
invariant-loop-n l = Stands l.plan l.n l.self × Mirrors l.plan l.n l.self
