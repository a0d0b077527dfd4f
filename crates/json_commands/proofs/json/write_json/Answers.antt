use Rattle.command_core.specs.Seen.{Run, input_seen, output_seen, run_over_streams}
use Rattle.command_core.proofs.Ended.{by_answer}
use Rattle.json_commands.specs.Json.{json_meaning}
use Rattle.json_commands.proofs.Senses.{json_sense}
use Rattle.json_commands.proofs.json.write_json.Goals as goal

pub returns : goal.returns
returns g c =
    let answer = c.input_lines-answer in
    λ around.
    let told : Run = run_over_streams around
    (input_seen (g.I.Source.left c.args.input.now) (g.I.Faulted.faults c.args.input.now)) (input_seen (g.I.Source.left answer.new.input) (g.I.Faulted.faults answer.new.input))
    (output_seen (g.W.Sink.taken c.args.output.now) (g.W.Faulted.faults c.args.output.now)) (output_seen (g.W.Sink.taken c.write_result.new.output) (g.W.Faulted.faults c.write_result.new.output)) in
    by_answer json_meaning json_sense told c.write_result.result answer.result answer.ensures.given answer.ensures.cause c.write_result.ensures
