use Rattle.command_core.specs.Seen.{Run, input_seen, output_seen, run_over_streams}
use Rattle.command_core.proofs.Ended.{by_answer}
use Rattle.tag_commands.specs.ShowBack.{show_back_meaning}
use Rattle.tag_commands.proofs.Senses.{show_back_sense}
use Rattle.tag_commands.proofs.show_back.read_shown.Goals as goal

pub returns : goal.returns
returns g c =
    let answer = c.bytes_shown-answer in
    λ around.
    let told : Run = run_over_streams around
    (input_seen (g.I.Source.left c.args.input.now) (g.I.Faulted.faults c.args.input.now)) (input_seen (g.I.Source.left answer.new.input) (g.I.Faulted.faults answer.new.input))
    (output_seen (g.W.Sink.taken c.args.output.now) (g.W.Faulted.faults c.args.output.now)) (output_seen (g.W.Sink.taken c.write_result.new.output) (g.W.Faulted.faults c.write_result.new.output)) in
    by_answer show_back_meaning show_back_sense told c.write_result.result answer.result answer.ensures.shown answer.ensures.cause c.write_result.ensures
