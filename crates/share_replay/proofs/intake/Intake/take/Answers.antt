use Rattle.std.proofs.Common.{List, refl}
use Rattle.share_asks.specs.declared.ask.Ask.{Ask}
use Rattle.share_replay.specs.Intakes.{HasPassed, IsReadOn}
use Rattle.share_replay.specs.declared.intake.Intake.{Intake}
use Rattle.share_replay.proofs.IntakeFacts.{came_more}
use Rattle.share_replay.proofs.ResultFacts.{on_ok_then}
use Rattle.share_replay.proofs.intake.Intake.take.Goals as goal

pub returns-clause-read : goal.returns-clause-read
returns-clause-read c =
    let i : Intake = c.args.self.now in
    let mid : Intake = record { reader = i.reader; bytes = c.extend_from_slice.new.self; fed = i.fed; next = i.next; fault = i.fault } in
    let now : Intake = c.read_on.new.self in
    on_ok_then ((asks : List Ask) → HasPassed asks mid → IsReadOn asks now) ((asks : List Ask) → IsReadOn asks i → IsReadOn asks now) c.read_on.result
    (λ reads asks read. reads asks (came_more asks i mid c.args.more.now refl refl refl refl c.in_ok-extend_from_slice.ensures.items read.passed)) c.read_on.ensures.read
