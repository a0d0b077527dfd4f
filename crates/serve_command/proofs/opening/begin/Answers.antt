use Rattle.std.proofs.Common.{◌+◌, ℕ, List, subst, inl}
use Rattle.command_core.specs.Seen.{OutputSeen, output_seen}
use Rattle.share_crew.specs.Begun.{WritesAndLocks}
use Rattle.serve_command.specs.Terms.{workers_of}
use Rattle.serve_command.proofs.Beginning.{begins}
use Rattle.serve_command.proofs.opening.begin.Goals as goal

pub returns-in-Ok : goal.returns-in-Ok
returns-in-Ok g c =
    let old : OutputSeen = output_seen (g.W.Sink.taken c.args.output.now) (g.W.Faulted.faults c.args.output.now) in
    let new : OutputSeen = output_seen (g.W.Sink.taken c.write_and_lock.new.output) (g.W.Faulted.faults c.write_and_lock.new.output) in
    begins c.args.serving.now old new c.args.share c.in-Ok.room c.in-Ok.line.items c.write_and_lock.result c.requires.settings c.in-Ok.ensures.room c.in-Ok.ensures.line
    (subst (λ (l : List ℕ). WritesAndLocks (workers_of c.args.serving.now + 1) c.args.share c.in-Ok.room l old new c.write_and_lock.result) c.as_slice.ensures.value c.write_and_lock.ensures)

pub returns-in-Err : goal.returns-in-Err
returns-in-Err g c = inl c.out_of_memory.ensures.told
