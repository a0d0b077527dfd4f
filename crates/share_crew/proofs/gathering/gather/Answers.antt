use Rattle.std.proofs.Common.{◌++◌, length, map, ap, ◌∙◌, arith}
use Rattle.share_lock.specs.Passes.{lock_id, known}
use Rattle.share_crew.specs.Verdicts.{verdict_of}
use Rattle.share_crew.proofs.Counting.{links_fit, requests_fit}
use Rattle.share_crew.proofs.Working.{has_gathered}
use Rattle.share_crew.proofs.gathering.gather.Goals as goal

pub join_each-requires-clause-room : goal.join_each-requires-clause-room
join_each-requires-clause-room g c = let room = c.requires.room in let none = ap length c.requires.empty in omega (arith, room, none)

pub returns-clause-gathered : goal.returns-clause-gathered
returns-clause-gathered g c = λ settings opening kept before start hired listeners served roles.
    let after = c.args.begun.room.crew.items in
    has_gathered settings opening (lock_id c.args.begun.lock) (known c.args.begun.first) (known c.join_each.new.first) g.N.D.Listener.coming g.N.D.Listener.written g.N.D.Faulted.faults kept before after
    (g.N.Net.written c.args.net.now) (g.N.Net.written c.join_each.new.net) (g.N.Faulted.faults c.args.net.now) (g.N.Faulted.faults c.join_each.new.net) c.of.result c.verdict_of-verdict.result
    start hired listeners served roles (c.join_each.ensures.joined settings opening) (c.join_each.ensures.shut settings opening)
    (c.of.ensures ∙ (c.join_each.ensures.links ∙ ap (λ l. map (λ reports. reports.items) l ++ map (λ w. w.reports.items) after) c.requires.empty))
    (c.verdict_of-verdict.ensures ∙ ap (λ l. verdict_of (map (λ w. w.end) l)) c.as_slice.ensures.value)

pub returns-clause-links : goal.returns-clause-links
returns-clause-links g c = λ before served few.
    let after = c.args.begun.room.crew.items in
    links_fit g.N.D.Listener.coming g.N.D.Listener.written g.N.D.Faulted.faults before after c.of.result served few
    (c.of.ensures ∙ (c.join_each.ensures.links ∙ ap (λ l. map (λ reports. reports.items) l ++ map (λ w. w.reports.items) after) c.requires.empty))

pub returns-clause-requests : goal.returns-clause-requests
returns-clause-requests g c = λ before served few.
    let after = c.args.begun.room.crew.items in
    requests_fit g.N.D.Listener.coming g.N.D.Listener.written g.N.D.Faulted.faults before after c.of.result served few
    (c.of.ensures ∙ (c.join_each.ensures.links ∙ ap (λ l. map (λ reports. reports.items) l ++ map (λ w. w.reports.items) after) c.requires.empty))
