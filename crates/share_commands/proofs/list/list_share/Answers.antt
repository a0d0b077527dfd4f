use Rattle.std.proofs.Common.{option_copied}
use Rattle.command_core.specs.Seen.{InputSeen, Run, input_seen, output_seen, run_over_streams}
use Rattle.command_core.proofs.Ended.{by_refusal}
use Rattle.share_commands.specs.ListShare.{list_meaning}
use Rattle.share_commands.proofs.Listed.{listed_ends}
use Rattle.share_commands.proofs.Senses.{list_sense}
use Rattle.share_commands.proofs.list.list_share.Goals as goal

-- the texts were refused before anything was read
pub returns-in-Err : goal.returns-in-Err
returns-in-Err g c =
    let query = option_copied c.args.query in
    let meta = option_copied c.args.meta in
    let input : InputSeen = input_seen (g.I.Source.left c.args.input.now) (g.I.Faulted.faults c.args.input.now) in
    λ around.
    let told : Run = run_over_streams around input input
    (output_seen (g.W.Sink.taken c.args.output.now) (g.W.Faulted.faults c.args.output.now)) (output_seen (g.W.Sink.taken c.write_error.new.output) (g.W.Faulted.faults c.write_error.new.output)) in
    by_refusal (list_meaning query meta c.args.target) (list_sense query meta c.args.target) told c.write_error.result c.in-Err.fault (c.in-Err.ensures.refused c.args.target input) c.write_error.ensures

pub returns-in-Err-open_checked : goal.returns-in-Err-open_checked
returns-in-Err-open_checked g c =
    let query = option_copied c.args.query in
    let meta = option_copied c.args.meta in
    let refused = c.write_error-in-Err-open_checked in
    λ around.
    let told : Run = run_over_streams around
    (input_seen (g.I.Source.left c.args.input.now) (g.I.Faulted.faults c.args.input.now)) (input_seen (g.I.Source.left c.open_checked.new.input) (g.I.Faulted.faults c.open_checked.new.input))
    (output_seen (g.W.Sink.taken c.args.output.now) (g.W.Faulted.faults c.args.output.now)) (output_seen (g.W.Sink.taken refused.new.output) (g.W.Faulted.faults refused.new.output)) in
    by_refusal (list_meaning query meta c.args.target) (list_sense query meta c.args.target) told refused.result c.in-Err-open_checked.fault
    (c.in-Err-open_checked.ensures.cause query meta (c.in-Ok.look, c.in-Ok.ensures.read)) refused.ensures

-- a share was opened
pub returns-in-Ok-open_checked : goal.returns-in-Ok-open_checked
returns-in-Ok-open_checked g c =
    let query = option_copied c.args.query in
    let meta = option_copied c.args.meta in
    let opened = c.in-Ok-open_checked.ensures.opened in
    λ around.
    let told : Run = run_over_streams around
    (input_seen (g.I.Source.left c.args.input.now) (g.I.Faulted.faults c.args.input.now)) (input_seen (g.I.Source.left c.open_checked.new.input) (g.I.Faulted.faults c.open_checked.new.input))
    (output_seen (g.W.Sink.taken c.args.output.now) (g.W.Faulted.faults c.args.output.now)) (output_seen (g.W.Sink.taken c.write_listed.new.output) (g.W.Faulted.faults c.write_listed.new.output)) in
    listed_ends query meta c.args.target told c.write_listed.result c.in-Ok.look opened.0 c.in-Ok-open_checked.opened.history c.in-Ok.ensures.read opened.1 (c.write_listed.ensures.told opened.0 opened.2)
