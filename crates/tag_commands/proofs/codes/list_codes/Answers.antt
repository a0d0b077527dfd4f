use Rattle.std.proofs.Common.{None, refl, ◌∙◌}
use Rattle.command_core.specs.Seen.{Run, output_seen, run_over_streams}
use Rattle.command_core.proofs.Ended.{by_output, by_idle}
use Rattle.tag_commands.specs.Codes.{codes_meaning}
use Rattle.tag_commands.proofs.Senses.{codes_sense}
use Rattle.tag_commands.proofs.codes.list_codes.Goals as goal

pub returns-in-Ok : goal.returns-in-Ok
returns-in-Ok g c =
    λ around input.
    let told : Run = run_over_streams around input input
    (output_seen (g.W.Sink.taken c.args.output.now) (g.W.Faulted.faults c.args.output.now)) (output_seen (g.W.Sink.taken c.write_output.new.output) (g.W.Faulted.faults c.write_output.new.output)) in
    by_output codes_meaning codes_sense told c.write_output.result None c.as_slice.result.now
    (record { unread = record { left = refl; faults = refl }; unopened = refl; written = c.as_slice.ensures.value ∙ c.in-Ok.ensures }) c.write_output.ensures

pub returns-in-Err : goal.returns-in-Err
returns-in-Err g c =
    λ around input.
    let told : Run = run_over_streams around input input
    (output_seen (g.W.Sink.taken c.args.output.now) (g.W.Faulted.faults c.args.output.now))
    (output_seen (g.W.Sink.taken c.out_of_memory.new.output) (g.W.Faulted.faults c.out_of_memory.new.output)) in
    by_idle codes_meaning codes_sense.sensible told c.out_of_memory.result refl c.out_of_memory.ensures
