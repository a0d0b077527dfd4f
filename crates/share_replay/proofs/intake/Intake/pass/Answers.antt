use Rattle.std.proofs.Common.{◌≡◌, ◌++◌, ◌∷◌, [], List, Some, refl}
use Rattle.share_asks.specs.declared.ask.Ask.{Ask}
use Rattle.share_replay.specs.Intakes.{HasPassed, IsReadOn}
use Rattle.share_replay.specs.declared.intake.Intake.{Intake}
use Rattle.share_replay.proofs.IntakeFacts.{passed_next}
use Rattle.share_replay.proofs.ResultFacts.{on_ok_then}
use Rattle.share_replay.proofs.intake.Intake.pass.Goals as goal

pub returns-clause-read : goal.returns-clause-read
returns-clause-read c =
    let i : Intake = c.args.self.now in
    let mid : Intake = record { reader = i.reader; bytes = i.bytes; fed = i.fed; next = c.put_ask.new.place; fault = i.fault } in
    let now : Intake = c.read_on.new.self in
    on_ok_then ((asks : List Ask) → HasPassed asks mid → IsReadOn asks now)
    ((asks : List Ask) (ask : Ask) → i.next ≡ Some ask → IsReadOn asks i → IsReadOn (asks ++ ask ∷ []) now) c.read_on.result
    (λ reads asks ask is read. reads (asks ++ ask ∷ []) (passed_next asks ask i mid is refl refl c.put_ask.ensures refl refl read)) c.read_on.ensures.read
