use Rattle.std.proofs.Common.{[]}
use Rattle.command_core.specs.Seen.{InputSeen, OutputSeen}
use Rattle.command_core.proofs.Appending.{none_written}
use Rattle.tag_commands.proofs.InStep.{step_none}
use Rattle.tag_commands.proofs.Showing.{is_counted, show_nothing, ended_whole, ended_inside}
use Rattle.tag_commands.proofs.show.write_lines.Goals as goal

pub returns-in-Err : goal.returns-in-Err
returns-in-Err g c =
    let input : InputSeen = record { left = g.I.Source.left c.args.input.now; faults = g.I.Faulted.faults c.args.input.now } in
    let output : OutputSeen = record { taken = g.W.Sink.taken c.args.output.now; faults = g.W.Faulted.faults c.args.output.now } in
    record {
      shown = tt;
      stopped = (tt, ([], show_nothing input, none_written output));
      in_step = step_none input output;
    }

pub returns-in-Err-show_input : goal.returns-in-Err-show_input
returns-in-Err-show_input g c = record {
  shown = tt;
  stopped = c.in-Err-show_input.ensures.stopped;
  in_step = c.show_input.ensures.in_step;
}

-- the end of the input
pub returns-in-Ok-end : goal.returns-in-Ok-end
returns-in-Ok-end g c =
    let now = c.in_default.ensures.read in
    record {
      shown = (
        now.1,
        ended_whole (record { left = g.I.Source.left c.args.input.now; faults = g.I.Faulted.faults c.args.input.now })
            (record { left = g.I.Source.left c.show_input.new.input; faults = g.I.Faulted.faults c.show_input.new.input }) now.0 now.1
            c.show_input.new.self c.in-Ok-end.field-0 now.2 now.3 now.4 now.5 now.6 now.7
            (c.in-Ok-end.ensures now.0 (is_counted now.0 now.1 c.show_input.new.self now.2)),
        now.8,
      );
      stopped = tt;
      in_step = c.show_input.ensures.in_step;
    }

pub returns-in-Err-end : goal.returns-in-Err-end
returns-in-Err-end g c =
    let now = c.in_default.ensures.read in
    let ended =
    ended_inside (record { left = g.I.Source.left c.args.input.now; faults = g.I.Faulted.faults c.args.input.now })
    (record { left = g.I.Source.left c.show_input.new.input; faults = g.I.Faulted.faults c.show_input.new.input }) now.0 now.1
    c.show_input.new.self c.in-Err-end.error c.tags_fault.result now.2 now.3 now.4 now.5 now.6 now.7
    (c.in-Err-end.ensures now.0 (is_counted now.0 now.1 c.show_input.new.self now.2)) c.tags_fault.ensures in
    record {
      shown = tt;
      stopped = (ended.0, (now.1, ended.1, now.8));
      in_step = c.show_input.ensures.in_step;
    }
