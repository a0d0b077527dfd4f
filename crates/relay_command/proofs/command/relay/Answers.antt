use Rattle.std.proofs.Common.{refl, sym, subst, ◌∙◌}
use Rattle.std.proofs.lemmas.List.{length-map}
use Rattle.command_core.specs.Seen.{NetSeen, OutputSeen, net_seen, output_seen}
use Rattle.relay_command.specs.Begun.{NotAnnounced}
use Rattle.relay_command.specs.Lines.{relaying_line}
use Rattle.relay_command.specs.Runs.{WritesStop, served, unannounced, unopened}
use Rattle.relay_command.proofs.command.relay.Goals as goal

pub relay_locked-requires-clause-listeners : goal.relay_locked-requires-clause-listeners
relay_locked-requires-clause-listeners g c = λ κs bounds. sym (length-map c.in-Ok.places.listeners.items g.N.D.Listener.coming) ∙ c.in-Ok.ensures.opened.count

pub returns-in-Ok-begin-clause-ends : goal.returns-in-Ok-begin-clause-ends
returns-in-Ok-begin-clause-ends g c =
    let net = c.args.net.now in
    let start : NetSeen = net_seen (g.N.Net.asked net) (g.N.Net.written net) (g.N.Net.listener_links net) (g.N.Net.next_input net) (g.N.Faulted.faults net) in
    let old : OutputSeen = output_seen (g.W.Sink.taken c.args.output.now) (g.W.Faulted.faults c.args.output.now) in
    let first : OutputSeen = output_seen (g.W.Sink.taken c.begin.new.output) (g.W.Faulted.faults c.begin.new.output) in
    served (c.relay_locked.ensures.serves start old first (relaying_line c.args.relaying.now.name) c.in-Ok-begin.ensures c.in-Ok.ensures.opened c.in-Ok.ensures.listeners
    c.in-Ok-begin.ensures.written)

-- the share was not put under its lock
pub returns-in-Err-begin-clause-ends : goal.returns-in-Err-begin-clause-ends
returns-in-Err-begin-clause-ends g c =
    let net = c.args.net.now in
    let start : NetSeen = net_seen (g.N.Net.asked net) (g.N.Net.written net) (g.N.Net.listener_links net) (g.N.Net.next_input net) (g.N.Faulted.faults net) in
    let old : OutputSeen = output_seen (g.W.Sink.taken c.args.output.now) (g.W.Faulted.faults c.args.output.now) in
    let after : OutputSeen = output_seen (g.W.Sink.taken c.begin.new.output) (g.W.Faulted.faults c.begin.new.output) in
    unannounced (subst (NotAnnounced (relaying_line c.args.relaying.now.name) old after) (sym c.no_share.ensures.status) c.in-Err-begin.ensures)
    (c.close_unused.ensures.back start c.args.relaying.now c.in-Ok.ensures.opened c.in-Ok.ensures.listeners) c.no_share.ensures.none

-- an address was not opened
pub returns-in-Err-clause-ends : goal.returns-in-Err-clause-ends
returns-in-Err-clause-ends g c =
    let old : OutputSeen = output_seen (g.W.Sink.taken c.args.output.now) (g.W.Faulted.faults c.args.output.now) in
    let new : OutputSeen = output_seen (g.W.Sink.taken c.write_error.new.output) (g.W.Faulted.faults c.write_error.new.output) in
    unopened c.in-Err.stop c.in-Err.ensures.failed (subst (WritesStop c.in-Err.stop old new) (sym c.no_share-in-Err.ensures.status) c.write_error.ensures.told) c.no_share-in-Err.ensures.none
