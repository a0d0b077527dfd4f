use Rattle.std.proofs.Common.{◌≡◌, ℕ, List, IfOk, subst, sym}
use Rattle.share_history.specs.Histories.{batches, revision}
use Rattle.share_server.specs.declared.report.LinkReport.{LinkReport}
use Rattle.command_core.specs.Seen.{OutputSeen, output_seen}
use Rattle.relay_command.specs.Runs.{WritesEnd, last_lines}
use Rattle.relay_command.proofs.Telling.{told_end}
use Rattle.relay_command.proofs.closing.finish.Goals as goal

pub returns-clause-told : goal.returns-clause-told
returns-clause-told g c =
    let before : OutputSeen = output_seen (g.W.Sink.taken c.args.output.now) (g.W.Faulted.faults c.args.output.now) in
    let after : OutputSeen = output_seen (g.W.Sink.taken c.write_end-status.new.output) (g.W.Faulted.faults c.write_end-status.new.output) in
    subst (WritesEnd (last_lines (revision (batches c.args.share.history)) c.args.links c.args.rounds.now c.args.fault) c.args.fault before after) (sym c.of_share.ensures.status)
    (told_end c.last_lines-lines.result (last_lines (revision (batches c.args.share.history)) c.args.links c.args.rounds.now c.args.fault) c.args.fault before after c.write_end-status.result
    (subst (λ (t : ℕ × List (List LinkReport)). IfOk c.last_lines-lines.result (λ lines. lines.items ≡ last_lines t.0 t.1 c.args.rounds.now c.args.fault))
    (λ i. (c.revision.ensures i, c.as_slice.ensures i)) c.last_lines-lines.ensures)
    c.write_end-status.ensures)
