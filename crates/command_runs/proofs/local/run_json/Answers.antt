use Rattle.std.proofs.Common.{Bool, sym, subst}
use Rattle.command_core.specs.Seen.{Run, input_seen, output_seen, run_over_streams}
use Rattle.command_core.specs.Endings.{IsAnswered}
use Rattle.command_runs.specs.Table.{json_meaning_of}
use Rattle.command_runs.proofs.local.run_json.Goals as goal

pub returns-in-false : goal.returns-in-false
returns-in-false g c =
    λ around.
    let told : Run = run_over_streams around
    (input_seen (g.I.Source.left c.args.input.now) (g.I.Faulted.faults c.args.input.now)) (input_seen (g.I.Source.left c.write_json.new.input) (g.I.Faulted.faults c.write_json.new.input))
    (output_seen (g.W.Sink.taken c.args.output.now) (g.W.Faulted.faults c.args.output.now)) (output_seen (g.W.Sink.taken c.write_json.new.output) (g.W.Faulted.faults c.write_json.new.output)) in
    subst (λ (b : Bool). IsAnswered (json_meaning_of b) told c.write_json.result) (sym c.in-false.is) (c.write_json.ensures around)

pub returns-in-true : goal.returns-in-true
returns-in-true g c =
    λ around.
    let told : Run = run_over_streams around
    (input_seen (g.I.Source.left c.args.input.now) (g.I.Faulted.faults c.args.input.now)) (input_seen (g.I.Source.left c.read_json.new.input) (g.I.Faulted.faults c.read_json.new.input))
    (output_seen (g.W.Sink.taken c.args.output.now) (g.W.Faulted.faults c.args.output.now)) (output_seen (g.W.Sink.taken c.read_json.new.output) (g.W.Faulted.faults c.read_json.new.output)) in
    subst (λ (b : Bool). IsAnswered (json_meaning_of b) told c.read_json.result) (sym c.in-true.is) (c.read_json.ensures around)
