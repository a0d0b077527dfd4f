use Rattle.std.proofs.Common.{List, ℕ, sym, subst}
use Rattle.std.specs.Io.KnownBytes.{Appends}
use Rattle.outside_net.specs.Told.{AppendsPrefix}
use Rattle.command_core.specs.Seen.{OutputSeen, output_seen}
use Rattle.command_core.specs.Answers.{Writes}
use Rattle.share_crew.specs.Verdicts.{verdict_line, verdict_status}
use Rattle.share_crew.proofs.Telling.{told_behind}
use Rattle.serve_command.proofs.Telling.{TellsLine, told_cut}
use Rattle.serve_command.proofs.closing.write_end.Goals as goal

pub returns-in-Ok-put_all : goal.returns-in-Ok-put_all
returns-in-Ok-put_all g c =
    let old : OutputSeen = output_seen (g.W.Sink.taken c.args.output.now) (g.W.Faulted.faults c.args.output.now) in
    let mid : OutputSeen = output_seen (g.W.Sink.taken c.put_all.new.sink) (g.W.Faulted.faults c.put_all.new.sink) in
    let after : OutputSeen = output_seen (g.W.Sink.taken c.write_verdict.new.output) (g.W.Faulted.faults c.write_verdict.new.output) in
    let verdict = c.args.verdict in
    subst (TellsLine verdict old after c.write_verdict.result) (sym c.in-Ok.is)
    (told_behind old mid after c.in-Ok.line.items (verdict_line verdict) (verdict_status verdict) c.write_verdict.result
    (record { taken = subst (λ (l : List ℕ). Appends old.taken mid.taken l) c.as_slice.ensures.value c.in-Ok-put_all.ensures.all; faultless = c.in-Ok-put_all.ensures.count })
    c.write_verdict.ensures)

-- the output failed in the line
pub returns-in-Ok : goal.returns-in-Ok
returns-in-Ok g c =
    let old : OutputSeen = output_seen (g.W.Sink.taken c.args.output.now) (g.W.Faulted.faults c.args.output.now) in
    let after : OutputSeen = output_seen (g.W.Sink.taken c.put_all.new.sink) (g.W.Faulted.faults c.put_all.new.sink) in
    subst (TellsLine c.args.verdict old after 5) (sym c.in-Ok.is)
    (told_cut old after c.in-Ok.line.items (verdict_line c.args.verdict) (verdict_status c.args.verdict)
    (record { taken = subst (λ (l : List ℕ). AppendsPrefix old.taken after.taken l) c.as_slice.ensures.value c.in-Err-put_all.ensures.part; rose = c.in-Err-put_all.ensures.count }))

-- an allocation for the line failed
pub returns : goal.returns
returns g c =
    let old : OutputSeen = output_seen (g.W.Sink.taken c.args.output.now) (g.W.Faulted.faults c.args.output.now) in
    let after : OutputSeen = output_seen (g.W.Sink.taken c.write_verdict-in-Err.new.output) (g.W.Faulted.faults c.write_verdict-in-Err.new.output) in
    subst (TellsLine c.args.verdict old after c.write_verdict-in-Err.result) (sym c.in-Err.is)
    (subst (λ v. Writes (verdict_status v) (verdict_line v) old after c.write_verdict-in-Err.result) c.with_memory.ensures c.write_verdict-in-Err.ensures)
