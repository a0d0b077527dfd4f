use Rattle.std.proofs.Common.{rules, ◌≡◌, ◌<◌, List, false, sym, subst, refl}
use Rattle.share_lock.specs.Passes.{known}
use Rattle.share_server.specs.declared.report.Served.{Served}
use Rattle.share_server.specs.declared.report.LinkEnd.TheVariants.{Spent}
use Rattle.share_server.specs.Links.{LinkEnded}
use Rattle.share_server.specs.Progress.{ReadsServed}
use Rattle.share_server.specs.Losses.{is_loss}
use Rattle.share_server.proofs.Waiting.{keeping_yet}
use Rattle.share_server.proofs.Linking.{spent_at_once, started, unbegun}
use Rattle.share_server.proofs.link.serving.serve_to_end.Goals as goal

-- no request may be served
pub returns-then-context-eq0-clause-ended : goal.returns-then-context-eq0-clause-ended
returns-then-context-eq0-clause-ended g c =
    let none : c.args.context.now.limit ≡ 0 = search rules in
    subst
    (λ (served : List Served). LinkEnded c.args.role c.args.context.now.limit (known c.args.pass.now) (known c.args.pass.now) (g.K.Source.left c.args.link.now) (g.K.Sink.taken c.args.link.now) (g.K.Sink.taken c.args.link.now) served Spent)
    (sym c.new-served.ensures.items)
    (spent_at_once c.args.role c.args.context.now.limit (known c.args.pass.now) (g.K.Source.left c.args.link.now) (g.K.Sink.taken c.args.link.now) none)

-- there was no memory to read
pub returns-in_default-clause-ended : goal.returns-in_default-clause-ended
returns-in_default-clause-ended g c =
    let some : 0 < c.args.context.now.limit = search rules in
    subst
    (λ (served : List Served). LinkEnded c.args.role c.args.context.now.limit (known c.args.pass.now) (known c.args.pass.now) (g.K.Source.left c.args.link.now) (g.K.Sink.taken c.args.link.now) (g.K.Sink.taken c.end_out_of_memory.new.link) served c.end_out_of_memory.result)
    (sym c.new-served.ensures.items)
    (unbegun c.args.role c.args.context.now.limit (known c.args.pass.now) (g.K.Source.left c.args.link.now) (g.K.Sink.taken c.args.link.now) (g.K.Sink.taken c.end_out_of_memory.new.link)
    c.end_out_of_memory.result some c.end_out_of_memory.ensures.told)

-- its connection was served to its end
pub returns-clause-ended : goal.returns-clause-ended
returns-clause-ended g c =
    let some : 0 < c.args.context.now.limit = search rules in
    c.pump_to_end-end.ensures.ended c.args.role
    (record { pass = known c.args.pass.now; left = g.K.Source.left c.args.link.now; taken = g.K.Sink.taken c.args.link.now })
    (subst
    (λ (served : List Served). ReadsServed c.args.role c.args.context.now.limit (known c.args.pass.now) (known c.args.pass.now) (g.K.Source.left c.args.link.now) (g.K.Source.left c.args.link.now) (g.K.Sink.taken c.args.link.now) (g.K.Sink.taken c.args.link.now) c.in-Ok.reader served 0)
    (sym c.new-served.ensures.items)
    (started c.args.role c.args.context.now.limit (known c.args.pass.now) (g.K.Source.left c.args.link.now) (g.K.Sink.taken c.args.link.now) c.in-Ok.reader some
    c.in-Ok.ensures.role c.in-Ok.ensures.idle.0 c.in-Ok.ensures.idle.1 c.in-Ok.ensures.begins))

-- ---- the keeper

pub returns-then-context-eq0-clause-keeping : goal.returns-then-context-eq0-clause-keeping
returns-then-context-eq0-clause-keeping g c =
    keeping_yet (g.F.Keeps.keeps c.args.keeper.now) (g.F.Keeps.is_lost c.args.keeper.now) (g.F.Keeps.faults c.args.keeper.now) (known c.args.pass.now)
    false c.requires.going refl

pub returns-in_default-clause-keeping : goal.returns-in_default-clause-keeping
returns-in_default-clause-keeping g c =
    keeping_yet (g.F.Keeps.keeps c.args.keeper.now) (g.F.Keeps.is_lost c.args.keeper.now) (g.F.Keeps.faults c.args.keeper.now) (known c.args.pass.now)
    (is_loss c.end_out_of_memory.result) c.requires.going c.end_out_of_memory.ensures.goes_on

pub returns-clause-keeping : goal.returns-clause-keeping
returns-clause-keeping g c = c.pump_to_end-end.ensures.keeping
