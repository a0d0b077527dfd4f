use Rattle.std.proofs.Common.{refl, inr}
use Rattle.command_core.specs.Faults.{memory_line}
use Rattle.command_core.specs.Seen.{OutputSeen, output_seen}
use Rattle.share_crew.proofs.Telling.{told_behind}
use Rattle.share_crew.proofs.opening.write_and_lock.Goals as goal

pub returns-in-Ok-open : goal.returns-in-Ok-open
returns-in-Ok-open g c = (
  record { passes_are = c.in-Ok-open.ensures.lock; ready = c.in-Ok-open.ensures.ready; pass = c.in-Ok-open.ensures.pass; room_is = refl },
  record { taken = c.in-Ok.ensures.all; faultless = c.in-Ok.ensures.count },
)

-- an allocation failed after the line
pub returns-in-Err-open : goal.returns-in-Err-open
returns-in-Err-open g c =
    let old : OutputSeen = output_seen (g.W.Sink.taken c.args.output.now) (g.W.Faulted.faults c.args.output.now) in
    let mid : OutputSeen = output_seen (g.W.Sink.taken c.put_all.new.sink) (g.W.Faulted.faults c.put_all.new.sink) in
    let after : OutputSeen = output_seen (g.W.Sink.taken c.out_of_memory.new.output) (g.W.Faulted.faults c.out_of_memory.new.output) in
    inr (told_behind old mid after c.args.line.now memory_line 9 c.out_of_memory.result.status
    (record { taken = c.in-Ok.ensures.all; faultless = c.in-Ok.ensures.count }) c.out_of_memory.ensures.told)
