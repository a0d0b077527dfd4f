use Rattle.std.proofs.Common.{Err, sym, subst, ap}
use Rattle.outside_net.specs.declared.reading.ReadError.{ReadError}
use Rattle.command_core.specs.Seen.{InputSeen}
use Rattle.json_commands.specs.JsonBack.{StopsBack}
use Rattle.json_commands.proofs.Stopping.{lines_unread}
use Rattle.json_commands.proofs.json_back.input_tags.Goals as goal

pub returns-in-Err-clause-cause : goal.returns-in-Err-clause-cause
returns-in-Err-clause-cause g c =
    let before : InputSeen = record { left = g.I.Source.left c.args.input.now; faults = g.I.Faulted.faults c.args.input.now } in
    let after : InputSeen = record { left = g.I.Source.left c.read_within.new.source; faults = g.I.Faulted.faults c.read_within.new.source } in
    let read = c.in-Err.ensures in
    subst (StopsBack before after) (sym c.read_fault.ensures)
    (lines_unread before after c.in-Err.error (λ is. read.failed (ap (λ (e : ReadError). Err e) is)) read.part
    (λ is. read.too_long (ap (λ (e : ReadError). Err e) is)) read.count)
