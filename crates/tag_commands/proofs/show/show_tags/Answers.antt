use Rattle.std.proofs.Common.{None, refl, subst}
use Rattle.command_core.specs.Seen.{Run, OutputSeen, input_seen, output_seen, run_over_streams}
use Rattle.command_core.proofs.Ended.{by_done, by_cut, by_fault}
use Rattle.tag_commands.specs.Show.{show_meaning}
use Rattle.tag_commands.specs.Showing.{ShowStops}
use Rattle.tag_commands.specs.TopTags.{tags_line, tags_status}
use Rattle.tag_commands.proofs.InStep.{step_fault}
use Rattle.tag_commands.proofs.Senses.{show_sense}
use Rattle.tag_commands.proofs.show.show_tags.Goals as goal

pub returns-in-Ok : goal.returns-in-Ok
returns-in-Ok g c =
    let shown = c.in-Ok.ensures.shown in
    λ around.
    let told : Run = run_over_streams around
    (input_seen (g.I.Source.left c.args.input.now) (g.I.Faulted.faults c.args.input.now)) (input_seen (g.I.Source.left c.write_lines.new.input) (g.I.Faulted.faults c.write_lines.new.input))
    (output_seen (g.W.Sink.taken c.args.output.now) (g.W.Faulted.faults c.args.output.now)) (output_seen (g.W.Sink.taken c.write_lines.new.output) (g.W.Faulted.faults c.write_lines.new.output)) in
    by_done show_meaning show_sense told (record { status = 0; history = None }) shown.0 c.write_lines.ensures.in_step shown.1 refl shown.2

pub returns-in-Err-Input : goal.returns-in-Err-Input
returns-in-Err-Input g c =
    λ around.
    let told : Run = run_over_streams around
    (input_seen (g.I.Source.left c.args.input.now) (g.I.Faulted.faults c.args.input.now)) (input_seen (g.I.Source.left c.write_lines.new.input) (g.I.Faulted.faults c.write_lines.new.input))
    (output_seen (g.W.Sink.taken c.args.output.now) (g.W.Faulted.faults c.args.output.now)) (output_seen (g.W.Sink.taken c.write_error.new.output) (g.W.Faulted.faults c.write_error.new.output)) in
    let mid : OutputSeen = output_seen (g.W.Sink.taken c.write_lines.new.output) (g.W.Faulted.faults c.write_lines.new.output) in
    let stops = subst (ShowStops told.before.input told.after.input told.output_before mid) c.in-Err-Input.field-0-is c.in-Err-Input.ensures.stopped in
    by_fault show_meaning show_sense told mid c.write_error.result stops.1.0 c.in-Err-Input.fault
    (step_fault tags_line tags_status c.in-Err-Input.fault told.before.input told.after.input told.output_before mid told.output_after c.write_error.result c.write_lines.ensures.in_step c.write_error.ensures)
    stops.0 refl stops.1.1 stops.1.2 c.write_error.ensures

pub returns-in-Err-Output : goal.returns-in-Err-Output
returns-in-Err-Output g c =
    λ around.
    let told : Run = run_over_streams around
    (input_seen (g.I.Source.left c.args.input.now) (g.I.Faulted.faults c.args.input.now)) (input_seen (g.I.Source.left c.write_lines.new.input) (g.I.Faulted.faults c.write_lines.new.input))
    (output_seen (g.W.Sink.taken c.args.output.now) (g.W.Faulted.faults c.args.output.now)) (output_seen (g.W.Sink.taken c.write_lines.new.output) (g.W.Faulted.faults c.write_lines.new.output)) in
    let stops = subst (ShowStops told.before.input told.after.input told.output_before told.output_after) c.in-Err-Output.field-0-is c.in-Err-Output.ensures.stopped in
    by_cut show_meaning show_sense told (record { status = 5; history = None }) stops.0 c.write_lines.ensures.in_step stops.1 refl stops.2
