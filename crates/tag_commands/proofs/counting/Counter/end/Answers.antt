use Rattle.tag_commands.proofs.Counted.{ended_ok, ended_err}
use Rattle.tag_commands.proofs.counting.Counter.end.Goals as goal

pub returns-in-Ok : goal.returns-in-Ok
returns-in-Ok c =
    λ fed h. ended_ok fed c.args.self.reader c.args.self.tops h.counted h.quiet (c.in-Ok.ensures.told fed h.counted.handed h.counted.read h.counted.going)

pub returns-in-Err : goal.returns-in-Err
returns-in-Err c =
    λ fed h. ended_err fed c.args.self.reader c.args.self.tops c.in-Err.error h.counted (c.in-Err.ensures.told fed h.counted.handed h.counted.read h.counted.going)
