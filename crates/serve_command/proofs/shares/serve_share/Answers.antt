use Rattle.std.proofs.Common.{refl, sym, subst}
use Rattle.command_core.specs.Seen.{NetSeen, OutputSeen, net_seen, output_seen}
use Rattle.serve_command.specs.Runs.{NotAnnounced, announced, first_line, not_announced}
use Rattle.serve_command.proofs.Returning.{asked_still, faultless_still}
use Rattle.serve_command.proofs.shares.serve_share.Goals as goal

pub returns-in-Ok-clause-ends : goal.returns-in-Ok-clause-ends
returns-in-Ok-clause-ends g c = λ start at.
    let begun = c.in-Ok.ensures in
    let old : OutputSeen = output_seen (g.W.Sink.taken c.args.output.now) (g.W.Faulted.faults c.args.output.now) in
    announced (c.serve_locked.ensures.serves c.args.serving.now c.args.share.history start old (first_line c.args.serving.now c.args.share.history) begun.begun_with c.requires.opening at begun.written)

pub returns-in-Err-clause-ends : goal.returns-in-Err-clause-ends
returns-in-Err-clause-ends g c = λ start at.
    let old : OutputSeen = output_seen (g.W.Sink.taken c.args.output.now) (g.W.Faulted.faults c.args.output.now) in
    let new : OutputSeen = output_seen (g.W.Sink.taken c.begin.new.output) (g.W.Faulted.faults c.begin.new.output) in
    let before = c.args.net.now in
    let after = c.close_listeners.new.net in
    let mid : NetSeen = net_seen (g.N.Net.asked before) (g.N.Net.written before) (g.N.Net.listener_links before) (g.N.Net.next_input before) (g.N.Faulted.faults before) in
    let now : NetSeen = net_seen (g.N.Net.asked after) (g.N.Net.written after) (g.N.Net.listener_links after) (g.N.Net.next_input after) (g.N.Faulted.faults after) in
    let back = c.close_listeners.ensures.back start at.new_listen at.new_edit in
    not_announced (subst (NotAnnounced (first_line c.args.serving.now c.args.share.history) old new) (sym c.no_share.ensures.status) c.in-Err.ensures)
    (asked_still c.args.serving.now start mid now _ _ _ at.opened back)
    (faultless_still c.args.serving.now start mid now _ _ _ at.opened back)
    (record { is_lost = c.requires.going; counts = refl; kept = λ single had. had }) c.no_share.ensures.none
