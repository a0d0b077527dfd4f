use Rattle.std.proofs.Common.{◌≡◌, Bool, List, Some, rules, sym, subst}
use Rattle.std.specs.Prelude.{Result, Err}
use Rattle.share_lock.specs.Passes.{known}
use Rattle.share_server.specs.declared.report.Served.{Served}
use Rattle.share_server.specs.declared.report.LinkEnd.TheVariants.{LinkFault, FileFault}
use Rattle.share_server.specs.Answering.{IsOutcome, loses}
use Rattle.share_server.specs.Losses.{is_loss}
use Rattle.share_server.specs.Kept.{Keeping}
use Rattle.share_server.specs.declared.turns.outcome.Answered.{Answered}
use Rattle.share_server.specs.declared.turns.outcome.Unanswered.{Unanswered}
use Rattle.share_server.specs.declared.turns.outcome.Unanswered.TheVariants.{Gone, Lost}
use Rattle.share_server.specs.Served.{at_point}
use Rattle.share_server.specs.Progress.{RequestsServed, ExchangeDone}
use Rattle.share_server.proofs.Requests.{gone, writable, unkept, unserved}
use Rattle.share_server.proofs.Waiting.{keeping_yet}
use Rattle.share_server.proofs.link.exchanging.exchange.Goals as goal

-- reserving capacity for the report failed
pub returns-then-is_err-clause-exchanges : goal.returns-then-is_err-clause-exchanges
returns-then-is_err-clause-exchanges g c = λ start asks goes.
    subst
    (λ (served : List Served). ExchangeDone c.args.context.now.limit start.pass (known c.args.pass.now) start.taken (g.K.Sink.taken c.end_out_of_memory.new.link) asks c.args.ask.now served (Some c.end_out_of_memory.result))
    (sym c.reserve.ensures.items)
    (unserved c.args.context.now.limit start.pass (known c.args.pass.now) start.taken (g.K.Sink.taken c.args.link.now) (g.K.Sink.taken c.end_out_of_memory.new.link) asks c.args.ask.now
    c.args.served.now.items c.end_out_of_memory.result goes c.end_out_of_memory.ensures.told)

-- the answer can be written
pub tell-requires-clause-writable : goal.tell-requires-clause-writable
tell-requires-clause-writable g c = writable (known c.args.pass.now).settings (at_point (known c.answer_request.new.pass).seen c.in-Ok.answered.served) c.args.ask.now c.in-Ok.answered.served
    c.in-Ok.answered.said c.in-Ok.ensures.outcome.said

-- it was answered
pub returns-in-Ok-clause-exchanges : goal.returns-in-Ok-clause-exchanges
returns-in-Ok-clause-exchanges g c = λ start asks goes.
    c.tell.ensures.exchanges start (known c.args.pass.now) (known c.answer_request.new.pass) asks
    (subst (λ (served : List Served). RequestsServed c.args.context.now.limit start.pass (known c.args.pass.now) start.taken (g.K.Sink.taken c.answer_request.new.link) asks served) (sym c.reserve.ensures.items)
    (subst (λ now. RequestsServed c.args.context.now.limit start.pass (known c.args.pass.now) start.taken now asks c.args.served.now.items) (sym c.answer_request.ensures.taken) goes))
    c.in-Ok.ensures.outcome

-- its peer went
pub returns-in-Err-Gone-clause-exchanges : goal.returns-in-Err-Gone-clause-exchanges
returns-in-Err-Gone-clause-exchanges g c = λ start asks goes.
    let is : ◌≡◌ {A = Result Answered Unanswered} c.answer_request.result (Err Gone) = search rules in
    subst
    (λ (served : List Served). ExchangeDone c.args.context.now.limit start.pass (known c.answer_request.new.pass) start.taken (g.K.Sink.taken c.answer_request.new.link) asks c.args.ask.now served (Some LinkFault))
    (sym c.reserve.ensures.items)
    (gone c.args.context.now.limit start.pass (known c.args.pass.now) (known c.answer_request.new.pass) start.taken (g.K.Sink.taken c.args.link.now)
    (g.K.Sink.taken c.answer_request.new.link) asks c.args.ask.now c.args.served.now.items goes
    (subst (IsOutcome (known c.args.pass.now) (known c.answer_request.new.pass) c.args.ask.now) is c.answer_request.ensures.outcome)
    c.answer_request.ensures.taken)

-- its edit was lost
pub returns-in-Err-Lost-clause-exchanges : goal.returns-in-Err-Lost-clause-exchanges
returns-in-Err-Lost-clause-exchanges g c = λ start asks goes.
    let is : ◌≡◌ {A = Result Answered Unanswered} c.answer_request.result (Err Lost) = search rules in
    subst
    (λ (served : List Served). ExchangeDone c.args.context.now.limit start.pass (known c.answer_request.new.pass) start.taken (g.K.Sink.taken c.answer_request.new.link) asks c.args.ask.now served (Some FileFault))
    (sym c.reserve.ensures.items)
    (unkept c.args.context.now.limit start.pass (known c.args.pass.now) (known c.answer_request.new.pass) start.taken (g.K.Sink.taken c.args.link.now)
    (g.K.Sink.taken c.answer_request.new.link) asks c.args.ask.now c.args.served.now.items goes
    (subst (IsOutcome (known c.args.pass.now) (known c.answer_request.new.pass) c.args.ask.now) is c.answer_request.ensures.outcome)
    c.answer_request.ensures.taken)

-- ---- the keeper

pub returns-then-is_err-clause-keeping : goal.returns-then-is_err-clause-keeping
returns-then-is_err-clause-keeping g c =
    keeping_yet (g.F.Keeps.keeps c.args.keeper.now) (g.F.Keeps.is_lost c.args.keeper.now) (g.F.Keeps.faults c.args.keeper.now) (known c.args.pass.now)
    (is_loss c.end_out_of_memory.result) c.requires.going c.end_out_of_memory.ensures.goes_on

pub returns-in-Ok-clause-keeping : goal.returns-in-Ok-clause-keeping
returns-in-Ok-clause-keeping g c =
    subst
    (λ (b : Bool). Keeping (g.F.Keeps.keeps c.args.keeper.now) (g.F.Keeps.keeps c.answer_request.new.keeper) (g.F.Keeps.is_lost c.answer_request.new.keeper) (g.F.Keeps.faults c.args.keeper.now) (g.F.Keeps.faults c.answer_request.new.keeper) (known c.args.pass.now) (known c.answer_request.new.pass) b)
    (sym c.tell.ensures.goes_on)
    c.in-Ok.ensures.keeping

pub returns-in-Err-Gone-clause-keeping : goal.returns-in-Err-Gone-clause-keeping
returns-in-Err-Gone-clause-keeping g c =
    let is : ◌≡◌ {A = Result Answered Unanswered} c.answer_request.result (Err Gone) = search rules in
    subst
    (λ (r : Result Answered Unanswered). Keeping (g.F.Keeps.keeps c.args.keeper.now) (g.F.Keeps.keeps c.answer_request.new.keeper) (g.F.Keeps.is_lost c.answer_request.new.keeper) (g.F.Keeps.faults c.args.keeper.now) (g.F.Keeps.faults c.answer_request.new.keeper) (known c.args.pass.now) (known c.answer_request.new.pass) (loses r))
    is
    c.answer_request.ensures.keeping

pub returns-in-Err-Lost-clause-keeping : goal.returns-in-Err-Lost-clause-keeping
returns-in-Err-Lost-clause-keeping g c =
    let is : ◌≡◌ {A = Result Answered Unanswered} c.answer_request.result (Err Lost) = search rules in
    subst
    (λ (r : Result Answered Unanswered). Keeping (g.F.Keeps.keeps c.args.keeper.now) (g.F.Keeps.keeps c.answer_request.new.keeper) (g.F.Keeps.is_lost c.answer_request.new.keeper) (g.F.Keeps.faults c.args.keeper.now) (g.F.Keeps.faults c.answer_request.new.keeper) (known c.args.pass.now) (known c.answer_request.new.pass) (loses r))
    is
    c.answer_request.ensures.keeping
