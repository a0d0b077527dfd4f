use Rattle.std.proofs.Common.{List, ℕ, Some, inl, inr, subst}
use Rattle.command_core.specs.Answers.{WritesDone}
use Rattle.command_core.specs.Seen.{OutputSeen, output_seen}
use Rattle.share_commands.proofs.list.write_listed.Goals as goal

pub returns-in-Ok-clause-told : goal.returns-in-Ok-clause-told
returns-in-Ok-clause-told g c = λ edits opened.
    let before : OutputSeen = output_seen (g.W.Sink.taken c.args.output.now) (g.W.Faulted.faults c.args.output.now) in
    let after : OutputSeen = output_seen (g.W.Sink.taken c.write_listing.new.output) (g.W.Faulted.faults c.write_listing.new.output) in
    inl (subst (λ (bytes : List ℕ). WritesDone (Some c.args.opened.history) bytes before after c.write_listing.result) (c.in-Ok.ensures.listing edits opened) c.write_listing.ensures)

pub returns-clause-told : goal.returns-clause-told
returns-clause-told g c = λ edits opened. inr c.out_of_memory.ensures
