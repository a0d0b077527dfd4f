use Rattle.std.proofs.Common.{◌≡◌, ℕ, List, IfOk, subst, sym}
use Rattle.share_history.specs.Histories.{batches, revision}
use Rattle.share_server.specs.declared.report.LinkReport.{LinkReport}
use Rattle.command_core.specs.Seen.{OutputSeen, output_seen}
use Rattle.share_crew.specs.Lines.{ended_line}
use Rattle.serve_command.specs.Runs.{WritesEnd}
use Rattle.serve_command.proofs.Telling.{told_end}
use Rattle.serve_command.proofs.closing.finish.Goals as goal

pub returns-clause-told : goal.returns-clause-told
returns-clause-told g c =
    let before : OutputSeen = output_seen (g.W.Sink.taken c.args.output.now) (g.W.Faulted.faults c.args.output.now) in
    let after : OutputSeen = output_seen (g.W.Sink.taken c.write_end-status.new.output) (g.W.Faulted.faults c.write_end-status.new.output) in
    subst (WritesEnd (ended_line (revision (batches c.args.share.history)) c.args.links) c.args.verdict before after) (sym c.of_share.ensures.status)
    (told_end c.ended_line_of-line.result (ended_line (revision (batches c.args.share.history)) c.args.links) c.args.verdict before after c.write_end-status.result
    (subst (λ (t : ℕ × List (List LinkReport)). IfOk c.ended_line_of-line.result (λ line. line.items ≡ ended_line t.0 t.1)) (λ i. (c.revision.ensures i, c.as_slice.ensures i)) c.ended_line_of-line.ensures)
    c.write_end-status.ensures)
