use Rattle.std.proofs.Common.{◌<◌, length, Ok, Err, arith}
use Rattle.std.proofs.lemmas.Result.{err_from_is_err_and}
use Rattle.dmap_stream.specs.declared.position.Position.{Position}
use Rattle.dmap_stream.specs.Walk.{at_head, walk_from}
use Rattle.dmap_stream.proofs.Heads.{IsHead, head_told}
use Rattle.dmap_stream.proofs.Settled.{resumed_head, due_head}
use Rattle.dmap_stream.proofs.Takings.{waits, takes_same, takes_more, takes_fault_later, whole}
use Rattle.dmap_stream.proofs.Wholes.{head_quiet}
use Rattle.dmap_stream.proofs.position.Position.gather_head.Goals as goal

pub returns-then-len-lt8-clause-takes : goal.returns-then-len-lt8-clause-takes
returns-then-len-lt8-clause-takes c =
    let s = c.args.self.now in
    let new : Position = record { start = s.start; around = s.around; phase = s.phase; part = c.fill.new.self; ready = s.ready } in
    let less : length c.fill.new.self < 8 = omega arith in
    waits c.args.table.now c.args.top (at_head (walk_from c.args.table.now c.args.top) c.args.table.now c.args.top s.start s.around) s.part c.args.piece.now 8 c.in_ok-taken.taken new
    c.in_ok-taken.ensures.took c.in_ok-taken.ensures.filled less
    (λ bytes few. head_quiet (walk_from c.args.table.now c.args.top) c.args.table.now c.args.top s.start s.around bytes few) c.requires.quiet
    (due_head new c.requires.head less)
    (λ rest. resumed_head c.args.table.now c.args.top new rest c.requires.head c.requires.quiet)

pub returns-in_err-more-clause-takes : goal.returns-in_err-more-clause-takes
returns-in_err-more-clause-takes c =
    let s = c.args.self.now in
    let full = whole s.part c.fill.new.self c.args.piece.now 8 c.in_ok-taken.taken c.in_ok-taken.ensures.took c.in_ok-taken.ensures.filled (omega arith) (omega arith) in
    let head : IsHead c.fill.new.self c.head-code.result.0 c.head-code.result.1 = record { count = full; code = c.head-code.ensures.code; told = c.head-code.ensures.len } in
    let p = err_from_is_err_and c.from_residual-in_err-more.result c.from_residual-in_err-more.ensures.1 in
    rw (p.1, p.2)
    (takes_fault_later c.args.table.now c.args.top (at_head (walk_from c.args.table.now c.args.top) c.args.table.now c.args.top s.start s.around) s.part c.fill.new.self c.args.piece.now _ c.in_ok-taken.taken c.enter.new.self _
    c.in_ok-taken.ensures.filled c.split_at.ensures.back
    (takes_same c.args.table.now c.args.top _ _ _ c.enter.new.self (Err c.in_err-more.field-0.0)
    (λ rest. head_told (walk_from c.args.table.now c.args.top) c.args.table.now c.args.top s.start s.around c.fill.new.self rest c.head-code.result.0 c.head-code.result.1 head) c.in_err-more.ensures.takes))

pub returns-clause-takes : goal.returns-clause-takes
returns-clause-takes c =
    let s = c.args.self.now in
    let full = whole s.part c.fill.new.self c.args.piece.now 8 c.in_ok-taken.taken c.in_ok-taken.ensures.took c.in_ok-taken.ensures.filled (omega arith) (omega arith) in
    let head : IsHead c.fill.new.self c.head-code.result.0 c.head-code.result.1 = record { count = full; code = c.head-code.ensures.code; told = c.head-code.ensures.len } in
    takes_more c.args.table.now c.args.top (at_head (walk_from c.args.table.now c.args.top) c.args.table.now c.args.top s.start s.around) s.part c.fill.new.self c.args.piece.now _ 8 c.in_ok-taken.taken c.in_ok-more.more c.enter.new.self
    c.in_ok-taken.ensures.filled c.split_at.ensures.back (omega (arith, c.in_ok-taken.ensures.took))
    (λ bytes few. head_quiet (walk_from c.args.table.now c.args.top) c.args.table.now c.args.top s.start s.around bytes few) (omega (arith, c.in_ok-taken.ensures.took))
    (takes_same c.args.table.now c.args.top _ _ _ c.enter.new.self (Ok c.in_ok-more.more)
    (λ rest. head_told (walk_from c.args.table.now c.args.top) c.args.table.now c.args.top s.start s.around c.fill.new.self rest c.head-code.result.0 c.head-code.result.1 head) c.in_ok-more.ensures.takes)
