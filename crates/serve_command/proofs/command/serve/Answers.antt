use Rattle.std.proofs.Common.{◌≡◌, None, refl, sym, subst, ◌∙◌}
use Rattle.command_core.specs.Seen.{InputSeen, NetSeen, OutputSeen, input_seen, net_seen, output_seen}
use Rattle.serve_command.specs.Faults.{StopsServing}
use Rattle.serve_command.specs.Runs.{WritesStop, stopped, unbegun, unopened}
use Rattle.serve_command.proofs.Inputs.{unread_alone, unread_cause}
use Rattle.serve_command.proofs.Returning.{asked_still, faultless_still}
use Rattle.serve_command.proofs.command.serve.Goals as goal

pub serve_records-requires-clause-may : goal.serve_records-requires-clause-may
serve_records-requires-clause-may g c = λ κs bounds. record { may = c.requires; listening = c.in-Ok.ensures.opened.listening; editing = c.in-Ok.ensures.opened.editing }

pub serve_records-requires-clause-readable : goal.serve_records-requires-clause-readable
serve_records-requires-clause-readable g c = λ κs bounds. let read = c.in-Ok-read_records.ensures.reads in record { text = read.bytes; reads = read.of.read }

pub returns-in-Ok-read_records-clause-ends : goal.returns-in-Ok-read_records-clause-ends
returns-in-Ok-read_records-clause-ends g c =
    let net = c.args.net.now in
    let start : NetSeen = net_seen (g.N.Net.asked net) (g.N.Net.written net) (g.N.Net.listener_links net) (g.N.Net.next_input net) (g.N.Faulted.faults net) in
    let before : InputSeen = input_seen (g.I.Source.left c.args.input.now) (g.I.Faulted.faults c.args.input.now) in
    let after : InputSeen = input_seen (g.I.Source.left c.read_records.new.input) (g.I.Faulted.faults c.read_records.new.input) in
    c.serve_records.ensures.ends before after start c.in-Ok-read_records.ensures.reads
    (record { opened = c.in-Ok.ensures.opened; new_listen = c.in-Ok.ensures.listen; new_edit = c.in-Ok.ensures.edit })

-- the input is refused
pub returns-in-Err-read_records-clause-ends : goal.returns-in-Err-read_records-clause-ends
returns-in-Err-read_records-clause-ends g c =
    let net = c.args.net.now in
    let start : NetSeen = net_seen (g.N.Net.asked net) (g.N.Net.written net) (g.N.Net.listener_links net) (g.N.Net.next_input net) (g.N.Faulted.faults net) in
    let before : InputSeen = input_seen (g.I.Source.left c.args.input.now) (g.I.Faulted.faults c.args.input.now) in
    let after : InputSeen = input_seen (g.I.Source.left c.read_records.new.input) (g.I.Faulted.faults c.read_records.new.input) in
    let back = c.refuse.ensures.back start c.in-Ok.ensures.listen c.in-Ok.ensures.edit in
    unbegun (asked_still c.args.serving.now start _ _ _ _ _ c.in-Ok.ensures.opened back) (faultless_still c.args.serving.now start _ _ _ _ _ c.in-Ok.ensures.opened back)
    (stopped c.input_fault.result (subst (StopsServing ⊥ before after) (sym c.input_fault.ensures) (unread_cause before after c.in-Err-read_records.fault c.in-Err-read_records.ensures.cause))
    (λ is. unread_alone (c.args.serving.now.file ≡ None) c.in-Err-read_records.fault (sym c.input_fault.ensures ∙ is)) refl c.refuse.ensures.told)
    c.refuse.ensures.none

-- an address was not opened
pub returns-in-Err-clause-ends : goal.returns-in-Err-clause-ends
returns-in-Err-clause-ends g c =
    let old : OutputSeen = output_seen (g.W.Sink.taken c.args.output.now) (g.W.Faulted.faults c.args.output.now) in
    let new : OutputSeen = output_seen (g.W.Sink.taken c.write_error.new.output) (g.W.Faulted.faults c.write_error.new.output) in
    unopened c.in-Err.stop c.in-Err.ensures.failed (record { left = refl; faults = refl }) refl
    (subst (WritesStop c.in-Err.stop old new) (sym c.no_share.ensures.status) c.write_error.ensures.told) c.no_share.ensures.none
