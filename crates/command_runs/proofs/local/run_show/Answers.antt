use Rattle.std.proofs.Common.{Bool, sym, subst}
use Rattle.command_core.specs.Seen.{Run, input_seen, output_seen, run_over_streams}
use Rattle.command_core.specs.Endings.{IsAnswered}
use Rattle.command_runs.specs.Table.{show_meaning_of}
use Rattle.command_runs.proofs.local.run_show.Goals as goal

pub returns-in-false : goal.returns-in-false
returns-in-false g c =
    λ around.
    let told : Run = run_over_streams around
    (input_seen (g.I.Source.left c.args.input.now) (g.I.Faulted.faults c.args.input.now)) (input_seen (g.I.Source.left c.show_tags.new.input) (g.I.Faulted.faults c.show_tags.new.input))
    (output_seen (g.W.Sink.taken c.args.output.now) (g.W.Faulted.faults c.args.output.now)) (output_seen (g.W.Sink.taken c.show_tags.new.output) (g.W.Faulted.faults c.show_tags.new.output)) in
    subst (λ (b : Bool). IsAnswered (show_meaning_of b) told c.show_tags.result) (sym c.in-false.is) (c.show_tags.ensures around)

pub returns-in-true : goal.returns-in-true
returns-in-true g c =
    λ around.
    let told : Run = run_over_streams around
    (input_seen (g.I.Source.left c.args.input.now) (g.I.Faulted.faults c.args.input.now)) (input_seen (g.I.Source.left c.read_shown.new.input) (g.I.Faulted.faults c.read_shown.new.input))
    (output_seen (g.W.Sink.taken c.args.output.now) (g.W.Faulted.faults c.args.output.now)) (output_seen (g.W.Sink.taken c.read_shown.new.output) (g.W.Faulted.faults c.read_shown.new.output)) in
    subst (λ (b : Bool). IsAnswered (show_meaning_of b) told c.read_shown.result) (sym c.in-true.is) (c.read_shown.ensures around)
