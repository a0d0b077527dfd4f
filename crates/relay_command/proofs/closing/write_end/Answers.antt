use Rattle.std.proofs.Common.{List, ℕ, sym, subst}
use Rattle.std.specs.Io.KnownBytes.{Appends}
use Rattle.outside_net.specs.Told.{AppendsPrefix}
use Rattle.command_core.specs.Seen.{OutputSeen, output_seen}
use Rattle.relay_command.specs.Runs.{WritesLastError}
use Rattle.relay_command.proofs.Telling.{TellsLines, cut_in, ruled_behind}
use Rattle.relay_command.proofs.closing.write_end.Goals as goal

pub returns-in-Ok-put_all : goal.returns-in-Ok-put_all
returns-in-Ok-put_all g c =
    let old : OutputSeen = output_seen (g.W.Sink.taken c.args.output.now) (g.W.Faulted.faults c.args.output.now) in
    let mid : OutputSeen = output_seen (g.W.Sink.taken c.put_all.new.sink) (g.W.Faulted.faults c.put_all.new.sink) in
    let after : OutputSeen = output_seen (g.W.Sink.taken c.write_verdict.new.output) (g.W.Faulted.faults c.write_verdict.new.output) in
    subst (TellsLines c.args.fault old after c.write_verdict.result) (sym c.in-Ok.is)
    (ruled_behind old mid after c.in-Ok.lines.items c.args.fault c.write_verdict.result
    (record { taken = subst (λ (l : List ℕ). Appends old.taken mid.taken l) c.as_slice.ensures.value c.in-Ok-put_all.ensures.all; faultless = c.in-Ok-put_all.ensures.count })
    c.write_verdict.ensures)

-- the output failed in the lines
pub returns-in-Ok : goal.returns-in-Ok
returns-in-Ok g c =
    let old : OutputSeen = output_seen (g.W.Sink.taken c.args.output.now) (g.W.Faulted.faults c.args.output.now) in
    let after : OutputSeen = output_seen (g.W.Sink.taken c.put_all.new.sink) (g.W.Faulted.faults c.put_all.new.sink) in
    subst (TellsLines c.args.fault old after 5) (sym c.in-Ok.is)
    (cut_in old after c.in-Ok.lines.items c.args.fault
    (record { taken = subst (λ (l : List ℕ). AppendsPrefix old.taken after.taken l) c.as_slice.ensures.value c.in-Err-put_all.ensures.part; rose = c.in-Err-put_all.ensures.count }))

-- an allocation for the lines failed
pub returns : goal.returns
returns g c =
    let old : OutputSeen = output_seen (g.W.Sink.taken c.args.output.now) (g.W.Faulted.faults c.args.output.now) in
    let after : OutputSeen = output_seen (g.W.Sink.taken c.write_verdict-in-Err.new.output) (g.W.Faulted.faults c.write_verdict-in-Err.new.output) in
    subst (TellsLines c.args.fault old after c.write_verdict-in-Err.result) (sym c.in-Err.is)
    (subst (λ f. WritesLastError f old after c.write_verdict-in-Err.result) c.with_memory.ensures c.write_verdict-in-Err.ensures)
