use Rattle.share_lock.specs.Passes.{known}
use Rattle.share_server.proofs.Stepping.{ended_at_one, took_none, took_one, was_unread}
use Rattle.share_server.proofs.Waiting.{keeping_yet}
use Rattle.share_server.specs.Losses.{is_loss}
use Rattle.share_server.proofs.link.reading.step.Goals as goal

-- the reader refused
pub returns-in-Err-clause-steps : goal.returns-in-Err-clause-steps
returns-in-Err-clause-steps g c = λ role bytes start midway.
    was_unread role bytes c.args.piece.now c.args.context.now.limit start.pass (known c.args.pass.now) start.taken (g.K.Sink.taken c.args.link.now) (g.K.Sink.taken c.end_on_head_error.new.link)
    c.args.progress.now.reader c.feed.new.self c.args.progress.now.served.items c.in-Err.error c.end_on_head_error.result midway c.in-Err.ensures.role c.in-Err.ensures.error
    c.in-Err.ensures.read c.end_on_head_error.ensures.memory c.end_on_head_error.ensures.refused

-- no request is whole yet
pub returns-in_default-clause-steps : goal.returns-in_default-clause-steps
returns-in_default-clause-steps g c = λ role bytes start midway.
    took_none role bytes c.args.piece.now c.in-Ok.taken c.args.context.now.limit start.pass (known c.args.pass.now) start.taken (g.K.Sink.taken c.args.link.now)
    c.args.progress.now.reader c.feed.new.self c.next.new.self c.args.progress.now.served.items c.next.result midway c.in-Ok.ensures.role c.in-Ok.ensures.error
    c.in-Ok.ensures.read c.next.ensures.result c.next.ensures.rest c.next.ensures.read c.in_default.is

-- the connection stays open after a request
pub returns-in-None-clause-steps : goal.returns-in-None-clause-steps
returns-in-None-clause-steps g c = λ role bytes start midway.
    took_one role bytes c.args.piece.now c.in-Ok.taken c.args.context.now.limit start.pass (known c.args.pass.now) start.taken (g.K.Sink.taken c.args.link.now)
    c.args.progress.now.reader c.feed.new.self c.next.new.self c.args.progress.now.served.items c.next.result midway c.in-Ok.ensures.role c.in-Ok.ensures.error
    c.in-Ok.ensures.read c.next.ensures.result c.next.ensures.rest c.next.ensures.read c.in-Some.ask (known c.serve_ask.new.pass) (g.K.Sink.taken c.serve_ask.new.link)
    c.serve_ask.new.served.items c.in-Some.is (λ k taken. c.in-None.ensures.exchanges (record { pass = k; left = start.left; taken = taken }))

-- it ended at one
pub returns-in-Some-serve_ask-clause-steps : goal.returns-in-Some-serve_ask-clause-steps
returns-in-Some-serve_ask-clause-steps g c = λ role bytes start midway.
    ended_at_one role bytes c.args.piece.now c.in-Ok.taken c.args.context.now.limit start.pass (known c.args.pass.now) start.taken (g.K.Sink.taken c.args.link.now)
    c.args.progress.now.reader c.feed.new.self c.next.new.self c.args.progress.now.served.items c.next.result midway c.in-Ok.ensures.role c.in-Ok.ensures.error
    c.in-Ok.ensures.read c.next.ensures.result c.next.ensures.rest c.next.ensures.read c.in-Some.ask (known c.serve_ask.new.pass) (g.K.Sink.taken c.serve_ask.new.link)
    c.serve_ask.new.served.items c.in-Some-serve_ask.end c.in-Some.is (λ k taken. c.in-Some-serve_ask.ensures.exchanges (record { pass = k; left = start.left; taken = taken }))

pub returns-in-Err-clause-keeping : goal.returns-in-Err-clause-keeping
returns-in-Err-clause-keeping g c =
    keeping_yet (g.F.Keeps.keeps c.args.keeper.now) (g.F.Keeps.is_lost c.args.keeper.now) (g.F.Keeps.faults c.args.keeper.now) (known c.args.pass.now)
    (is_loss c.end_on_head_error.result) c.requires.going c.end_on_head_error.ensures.goes_on
