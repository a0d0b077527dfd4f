use Rattle.std.proofs.Common.{refl}
use Rattle.command_core.specs.Seen.{InputSeen, NetSeen, Run, input_seen, net_seen, output_seen, run_over_net}
use Rattle.link_commands.specs.EditShare.{edit_meaning}
use Rattle.link_commands.specs.Linked.{HasLinked, LinkSeen, link_seen}
use Rattle.link_commands.proofs.EndedFacts.{by_answer}
use Rattle.link_commands.proofs.LinkedFacts.{linked}
use Rattle.link_commands.proofs.PushFacts.{edit_done, edit_promised, edit_stops, edit_unlinked}
use Rattle.link_commands.proofs.edit.edit_share.Goals as goal

pub returns-in-Ok-clause-answered : goal.returns-in-Ok-clause-answered
returns-in-Ok-clause-answered g c =
    let host = c.args.place.now in
    let old = c.args.net.now in
    let new = c.close.new.self in
    let link : LinkSeen = link_seen (g.N.L.Sink.taken c.in-Ok.link) (g.N.L.Source.left c.in-Ok.link) (g.N.L.Sink.taken c.send_edit-answer.new.link) (g.N.L.Faulted.faults c.send_edit-answer.new.link) in
    let before : NetSeen = net_seen (g.N.Net.asked old) (g.N.Net.written old) (g.N.Net.listener_links old) (g.N.Net.next_input old) (g.N.Faulted.faults old) in
    let after : NetSeen = net_seen (g.N.Net.asked new) (g.N.Net.written new) (g.N.Net.listener_links new) (g.N.Net.next_input new) (g.N.Faulted.faults new) in
    let made : HasLinked host before after link =
    linked host (g.N.Net.asked old) (g.N.Net.asked c.connect.new.self) (g.N.Net.asked new) (g.N.Net.written old) (g.N.Net.written c.connect.new.self) (g.N.Net.written new)
    (g.N.Net.listener_links old) (g.N.Net.listener_links c.connect.new.self) (g.N.Net.listener_links new) (g.N.Net.next_input old) (g.N.Net.next_input new) (g.N.Faulted.faults old)
    (g.N.Faulted.faults c.connect.new.self) (g.N.Faulted.faults new) link c.connect.ensures.asks c.close.ensures.asked_stays c.in-Ok.ensures.unwritten c.in-Ok.ensures.input
    c.connect.ensures.written_stays c.close.ensures.written_grows c.connect.ensures.links_stay c.close.ensures.links_stay c.in-Ok.ensures.count c.close.ensures.count in
    λ files.
    let told : Run = run_over_net files (input_seen (g.I.Source.left c.args.input.now) (g.I.Faulted.faults c.args.input.now))
    (input_seen (g.I.Source.left c.send_edit-answer.new.input) (g.I.Faulted.faults c.send_edit-answer.new.input)) before after
    (output_seen (g.W.Sink.taken c.args.output.now) (g.W.Faulted.faults c.args.output.now)) (output_seen (g.W.Sink.taken c.write_result.new.output) (g.W.Faulted.faults c.write_result.new.output)) in
    by_answer (edit_meaning host c.args.stop) (edit_promised host c.args.stop) told c.write_result.result c.send_edit-answer.result
    (edit_done host c.args.stop told.before told.after link c.send_edit-answer.result made c.send_edit-answer.ensures.sent)
    (edit_stops host c.args.stop told.before told.after link c.send_edit-answer.result made c.send_edit-answer.ensures.stops) c.write_result.ensures

pub returns-in-Err-clause-answered : goal.returns-in-Err-clause-answered
returns-in-Err-clause-answered g c =
    let old = c.args.net.now in
    let new = c.connect.new.self in
    let input : InputSeen = input_seen (g.I.Source.left c.args.input.now) (g.I.Faulted.faults c.args.input.now) in
    λ files.
    let told : Run = run_over_net files input input (net_seen (g.N.Net.asked old) (g.N.Net.written old) (g.N.Net.listener_links old) (g.N.Net.next_input old) (g.N.Faulted.faults old))
    (net_seen (g.N.Net.asked new) (g.N.Net.written new) (g.N.Net.listener_links new) (g.N.Net.next_input new) (g.N.Faulted.faults new))
    (output_seen (g.W.Sink.taken c.args.output.now) (g.W.Faulted.faults c.args.output.now)) (output_seen (g.W.Sink.taken c.write_error.new.output) (g.W.Faulted.faults c.write_error.new.output)) in
    edit_unlinked c.args.place.now c.args.stop told c.write_error.result (record { left = refl; faults = refl })
    (record { asked = c.connect.ensures.asks; written = c.connect.ensures.written_stays; listeners = c.connect.ensures.links_stay; rose = c.in-Err.ensures.count }) c.write_error.ensures
