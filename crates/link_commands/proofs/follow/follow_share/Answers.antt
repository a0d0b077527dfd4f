use Rattle.std.proofs.Common.{option_copied, refl}
use Rattle.command_core.specs.Seen.{NetSeen, OutputSeen, Run, net_seen, output_seen, run_over_net}
use Rattle.link_commands.specs.Linked.{HasLinked, LinkSeen, link_seen}
use Rattle.link_commands.proofs.FollowFacts.{finished, look_ends, unlinked_ends}
use Rattle.link_commands.proofs.LinkedFacts.{linked}
use Rattle.link_commands.proofs.follow.follow_share.Goals as goal

-- the texts were refused
pub returns-in-Err-clause-answered : goal.returns-in-Err-clause-answered
returns-in-Err-clause-answered g c =
    let old = c.args.net.now in
    let net : NetSeen = net_seen (g.N.Net.asked old) (g.N.Net.written old) (g.N.Net.listener_links old) (g.N.Net.next_input old) (g.N.Faulted.faults old) in
    λ files input.
    let told : Run = run_over_net files input input net net (output_seen (g.W.Sink.taken c.args.output.now) (g.W.Faulted.faults c.args.output.now))
    (output_seen (g.W.Sink.taken c.write_error.new.output) (g.W.Faulted.faults c.write_error.new.output)) in
    look_ends c.args.place.now c.args.rounds (option_copied c.args.query) (option_copied c.args.meta) c.args.target told c.write_error.result c.in-Err.fault refl c.in-Err.ensures.refused
    c.write_error.ensures

pub returns-in-Ok-connect-clause-answered : goal.returns-in-Ok-connect-clause-answered
returns-in-Ok-connect-clause-answered g c =
    let host = c.args.place.now in
    let query = option_copied c.args.query in
    let meta = option_copied c.args.meta in
    let old = c.args.net.now in
    let new = c.close.new.self in
    let first = c.in-Ok-connect.link in
    let last = c.follow_rounds-end.new.link in
    let link : LinkSeen = link_seen (g.N.L.Sink.taken first) (g.N.L.Source.left first) (g.N.L.Sink.taken last) (g.N.L.Faulted.faults last) in
    let before : NetSeen = net_seen (g.N.Net.asked old) (g.N.Net.written old) (g.N.Net.listener_links old) (g.N.Net.next_input old) (g.N.Faulted.faults old) in
    let after : NetSeen = net_seen (g.N.Net.asked new) (g.N.Net.written new) (g.N.Net.listener_links new) (g.N.Net.next_input new) (g.N.Faulted.faults new) in
    let mid : OutputSeen = output_seen (g.W.Sink.taken c.follow_rounds-end.new.output) (g.W.Faulted.faults c.follow_rounds-end.new.output) in
    let made : HasLinked host before after link =
    linked host (g.N.Net.asked old) (g.N.Net.asked c.connect.new.self) (g.N.Net.asked new) (g.N.Net.written old) (g.N.Net.written c.connect.new.self) (g.N.Net.written new)
    (g.N.Net.listener_links old) (g.N.Net.listener_links c.connect.new.self) (g.N.Net.listener_links new) (g.N.Net.next_input old) (g.N.Net.next_input new) (g.N.Faulted.faults old)
    (g.N.Faulted.faults c.connect.new.self) (g.N.Faulted.faults new) link c.connect.ensures.asks c.close.ensures.asked_stays c.in-Ok-connect.ensures.unwritten
    c.in-Ok-connect.ensures.input c.connect.ensures.written_stays c.close.ensures.written_grows c.connect.ensures.links_stay c.close.ensures.links_stay
    c.in-Ok-connect.ensures.count c.close.ensures.count in
    λ files input.
    let told : Run = run_over_net files input input before after (output_seen (g.W.Sink.taken c.args.output.now) (g.W.Faulted.faults c.args.output.now))
    (output_seen (g.W.Sink.taken c.finish.new.output) (g.W.Faulted.faults c.finish.new.output)) in
    finished host c.args.rounds query meta c.args.target told mid c.finish.result c.in-Ok.mirror c.follow_rounds-end.new.mirror link c.follow_rounds-end.result
    (record { asks = c.in-Ok.ensures.asks; unread = record { left = refl; faults = refl }; linked = made }) c.follow_rounds-end.ensures.followed c.follow_rounds-end.ensures.ends c.finish.ensures

-- no connection was made
pub returns-clause-answered : goal.returns-clause-answered
returns-clause-answered g c =
    let old = c.args.net.now in
    let new = c.connect.new.self in
    λ files input.
    let told : Run = run_over_net files input input (net_seen (g.N.Net.asked old) (g.N.Net.written old) (g.N.Net.listener_links old) (g.N.Net.next_input old) (g.N.Faulted.faults old))
    (net_seen (g.N.Net.asked new) (g.N.Net.written new) (g.N.Net.listener_links new) (g.N.Net.next_input new) (g.N.Faulted.faults new))
    (output_seen (g.W.Sink.taken c.args.output.now) (g.W.Faulted.faults c.args.output.now))
    (output_seen (g.W.Sink.taken c.write_error-in-Err-connect.new.output) (g.W.Faulted.faults c.write_error-in-Err-connect.new.output)) in
    unlinked_ends c.args.place.now c.args.rounds (option_copied c.args.query) (option_copied c.args.meta) c.args.target told c.write_error-in-Err-connect.result c.in-Ok.mirror
    c.in-Ok.ensures.asks (record { left = refl; faults = refl })
    (record { asked = c.connect.ensures.asks; written = c.connect.ensures.written_stays; listeners = c.connect.ensures.links_stay; rose = c.in-Err-connect.ensures.count })
    c.write_error-in-Err-connect.ensures
