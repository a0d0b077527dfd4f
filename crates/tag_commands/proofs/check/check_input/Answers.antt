use Rattle.tag_commands.proofs.Counted.{ended_checked, cut_cause}
use Rattle.tag_commands.proofs.check.check_input.Goals as goal

pub returns-in_ok-line_of-in-Ok-clause-checked : goal.returns-in_ok-line_of-in-Ok-clause-checked
returns-in_ok-line_of-in-Ok-clause-checked g c =
    let read = c.in_ok-counter.ensures.read in
    ended_checked (record { left = g.I.Source.left c.args.input.now; faults = g.I.Faulted.faults c.args.input.now })
    (record { left = g.I.Source.left c.count_tags.new.input; faults = g.I.Faulted.faults c.count_tags.new.input }) read.0 c.in_ok-line_of-in-Ok.field-0.items c.in_ok-counter.counter
    c.in-Ok.tags read.1 read.2 read.3 c.in_ok-counter.ensures.end c.in_ok-counter.ensures.faultless (c.in-Ok.ensures read.0 read.1) c.in_ok-line_of-in-Ok.ensures

pub returns-in-Err-clause-cause : goal.returns-in-Err-clause-cause
returns-in-Err-clause-cause g c =
    let read = c.in_ok-counter.ensures.read in
    cut_cause (record { left = g.I.Source.left c.args.input.now; faults = g.I.Faulted.faults c.args.input.now })
    (record { left = g.I.Source.left c.count_tags.new.input; faults = g.I.Faulted.faults c.count_tags.new.input }) read.0 c.in-Err.error c.tags_fault.result read.3
    c.in_ok-counter.ensures.end c.in_ok-counter.ensures.faultless read.2 (c.in-Err.ensures read.0 read.1) c.tags_fault.ensures
