use Rattle.std.proofs.Common.{[], None, inl, refl, ap, subst}
use Rattle.command_core.specs.Seen.{InputSeen, OutputSeen, Run, input_seen, output_seen, run_over_streams}
use Rattle.command_core.proofs.Appending.{none_written}
use Rattle.command_core.proofs.Ended.{by_fault, by_memory}
use Rattle.share_replies.specs.Answers.{Shared}
use Rattle.share_replies.specs.Settings.{Settings}
use Rattle.share_commands.specs.Moments.{EndsPlay}
use Rattle.share_commands.specs.ReplayShare.{replay_meaning, settings_of}
use Rattle.share_commands.proofs.ReplayEndings.{answered_by, unopened, unwritten}
use Rattle.share_commands.proofs.ReplaySense.{replay_sense, unplayed, unplayed_idle}
use Rattle.share_commands.proofs.replay.replay_script.Goals as goal

pub returns-in-Err : goal.returns-in-Err
returns-in-Err g c = λ around.
    let keep = c.args.keep in
    let name = c.args.name.now in
    let told : Run = run_over_streams around
    (input_seen (g.I.Source.left c.args.input.now) (g.I.Faulted.faults c.args.input.now)) (input_seen (g.I.Source.left c.script_of.new.input) (g.I.Faulted.faults c.script_of.new.input))
    (output_seen (g.W.Sink.taken c.args.output.now) (g.W.Faulted.faults c.args.output.now)) (output_seen (g.W.Sink.taken c.write_error.new.output) (g.W.Faulted.faults c.write_error.new.output)) in
    by_fault (replay_meaning keep name) (replay_sense keep name) told told.output_before c.write_error.result [] c.in-Err.fault
    (unplayed (settings_of keep name) told c.write_error.result c.in-Err.fault c.write_error.ensures) c.in-Err.ensures.cause
    (unopened keep name told.before told.after c.in-Err.fault) (unwritten keep name told.before told.after c.in-Err.fault) (none_written told.output_before) c.write_error.ensures

pub returns-in-Ok-open_empty : goal.returns-in-Ok-open_empty
returns-in-Ok-open_empty g c = λ around.
    let before : InputSeen = input_seen (g.I.Source.left c.args.input.now) (g.I.Faulted.faults c.args.input.now) in
    let after : InputSeen = input_seen (g.I.Source.left c.script_of.new.input) (g.I.Faulted.faults c.script_of.new.input) in
    let sink : OutputSeen = output_seen (g.W.Sink.taken c.args.output.now) (g.W.Faulted.faults c.args.output.now) in
    let sink' : OutputSeen = output_seen (g.W.Sink.taken c.play.new.output) (g.W.Faulted.faults c.play.new.output) in
    let ends = c.play.ensures in
    answered_by c.args.keep c.args.name.now around before after sink sink' c.play.result c.in-Ok.script ends.0 c.in-Ok.ensures.read ends.1
    (subst (λ (s : Settings). EndsPlay s c.in-Ok.script sink sink' c.play.result.status ends.0) (ap (λ (x : Shared). x.settings) c.in-Ok-open_empty.ensures) ends.2)

pub returns : goal.returns
returns g c = λ around.
    let keep = c.args.keep in
    let name = c.args.name.now in
    let told : Run = run_over_streams around
    (input_seen (g.I.Source.left c.args.input.now) (g.I.Faulted.faults c.args.input.now)) (input_seen (g.I.Source.left c.script_of.new.input) (g.I.Faulted.faults c.script_of.new.input))
    (output_seen (g.W.Sink.taken c.args.output.now) (g.W.Faulted.faults c.args.output.now)) (output_seen (g.W.Sink.taken c.out_of_memory.new.output) (g.W.Faulted.faults c.out_of_memory.new.output)) in
    by_memory (replay_meaning keep name) (replay_sense keep name) told told.output_before c.out_of_memory.result [] None
    (unplayed_idle (settings_of keep name) told c.out_of_memory.result c.out_of_memory.ensures) tt (inl refl) (inl refl) (none_written told.output_before) c.out_of_memory.ensures
