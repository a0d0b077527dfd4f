use Rattle.std.proofs.Common.{sym, subst}
use Rattle.command_core.specs.Seen.{OutputSeen, output_seen}
use Rattle.serve_command.specs.Runs.{WritesErrorLine}
use Rattle.serve_command.proofs.unserved.refuse.Goals as goal

pub returns-clause-told : goal.returns-clause-told
returns-clause-told g c =
    let old : OutputSeen = output_seen (g.W.Sink.taken c.args.output.now) (g.W.Faulted.faults c.args.output.now) in
    let new : OutputSeen = output_seen (g.W.Sink.taken c.write_error-status.new.output) (g.W.Faulted.faults c.write_error-status.new.output) in
    subst (WritesErrorLine g.E.Refusal.error_line g.E.Refusal.error_status c.args.stop.now old new) (sym c.no_share.ensures.status) c.write_error-status.ensures.told
