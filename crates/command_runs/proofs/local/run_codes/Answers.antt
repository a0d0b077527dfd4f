use Rattle.std.proofs.Common.{Bool, sym, subst}
use Rattle.command_core.specs.Seen.{Run, input_seen, output_seen, run_over_streams}
use Rattle.command_core.specs.Endings.{IsAnswered}
use Rattle.command_runs.specs.Table.{codes_meaning_of}
use Rattle.command_runs.proofs.local.run_codes.Goals as goal

pub returns-in-false : goal.returns-in-false
returns-in-false g c =
    λ around.
    let told : Run = run_over_streams around
    (input_seen (g.I.Source.left c.args.input.now) (g.I.Faulted.faults c.args.input.now)) (input_seen (g.I.Source.left c.args.input.now) (g.I.Faulted.faults c.args.input.now))
    (output_seen (g.W.Sink.taken c.args.output.now) (g.W.Faulted.faults c.args.output.now)) (output_seen (g.W.Sink.taken c.list_codes.new.output) (g.W.Faulted.faults c.list_codes.new.output)) in
    subst (λ (b : Bool). IsAnswered (codes_meaning_of b) told c.list_codes.result) (sym c.in-false.is) (c.list_codes.ensures around (input_seen (g.I.Source.left c.args.input.now) (g.I.Faulted.faults c.args.input.now)))

pub returns-in-true : goal.returns-in-true
returns-in-true g c =
    λ around.
    let told : Run = run_over_streams around
    (input_seen (g.I.Source.left c.args.input.now) (g.I.Faulted.faults c.args.input.now)) (input_seen (g.I.Source.left c.learn_codes.new.input) (g.I.Faulted.faults c.learn_codes.new.input))
    (output_seen (g.W.Sink.taken c.args.output.now) (g.W.Faulted.faults c.args.output.now)) (output_seen (g.W.Sink.taken c.learn_codes.new.output) (g.W.Faulted.faults c.learn_codes.new.output)) in
    subst (λ (b : Bool). IsAnswered (codes_meaning_of b) told c.learn_codes.result) (sym c.in-true.is) (c.learn_codes.ensures around)
