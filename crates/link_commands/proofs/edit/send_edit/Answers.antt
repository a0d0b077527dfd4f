use Rattle.std.proofs.Common.{Err, refl, ap, sym, subst}
use Rattle.outside_net.specs.declared.reading.ReadError.{ReadError}
use Rattle.command_core.specs.declared.fault.Fault.{Fault}
use Rattle.command_core.specs.Seen.{InputSeen, input_seen}
use Rattle.link_commands.specs.declared.edit.EditFault.{EditFault}
use Rattle.link_commands.specs.EditShare.{StopsSending}
use Rattle.link_commands.specs.Linked.{LinkSeen, link_seen}
use Rattle.link_commands.proofs.PushFacts.{reading_fault}
use Rattle.link_commands.proofs.edit.send_edit.Goals as goal

-- the input was not read whole
pub returns-in-Err-clause-stops : goal.returns-in-Err-clause-stops
returns-in-Err-clause-stops g c =
    let before : InputSeen = input_seen (g.I.Source.left c.args.input.now) (g.I.Faulted.faults c.args.input.now) in
    let after : InputSeen = input_seen (g.I.Source.left c.read_within.new.source) (g.I.Faulted.faults c.read_within.new.source) in
    let link : LinkSeen = link_seen (g.K.Sink.taken c.args.link.now) (g.K.Source.left c.args.link.now) (g.K.Sink.taken c.args.link.now) (g.K.Faulted.faults c.args.link.now) in
    let read = c.in-Err.ensures in
    subst (λ (f : Fault EditFault). StopsSending c.args.place.now c.args.stop before after link f) (sym c.read_fault.ensures)
    (reading_fault c.args.place.now c.args.stop before after link c.in-Err.error c.if-stop.false (record { unsent = refl; faultless = c.requires })
    (λ is. read.failed (ap (λ (e : ReadError). Err e) is)) read.part (λ is. read.too_long (ap (λ (e : ReadError). Err e) is)) read.count)
