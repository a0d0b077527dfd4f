use Rattle.command_core.specs.Seen.{Run, input_seen, output_seen, run_over_streams}
use Rattle.command_core.proofs.Ended.{by_answer}
use Rattle.tag_commands.specs.LearnCodes.{learn_meaning}
use Rattle.tag_commands.proofs.Senses.{learn_sense}
use Rattle.tag_commands.proofs.learn.learn_codes.Goals as goal

pub returns : goal.returns
returns g c =
    let answer = c.learn_lines-answer in
    λ around.
    let told : Run = run_over_streams around
    (input_seen (g.I.Source.left c.args.input.now) (g.I.Faulted.faults c.args.input.now)) (input_seen (g.I.Source.left answer.new.input) (g.I.Faulted.faults answer.new.input))
    (output_seen (g.W.Sink.taken c.args.output.now) (g.W.Faulted.faults c.args.output.now)) (output_seen (g.W.Sink.taken c.write_result.new.output) (g.W.Faulted.faults c.write_result.new.output)) in
    by_answer learn_meaning learn_sense told c.write_result.result answer.result answer.ensures.learned answer.ensures.cause c.write_result.ensures
