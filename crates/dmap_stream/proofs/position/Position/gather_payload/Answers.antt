use Rattle.std.proofs.Common.{◌<◌, length, Ok, Err, ap, ◌∙◌, arith}
use Rattle.std.proofs.lemmas.Result.{err_from_is_err_and}
use Rattle.dmap_tags.specs.Typed.{leaf_at, value_of}
use Rattle.dmap_stream.specs.declared.position.Position.{Position}
use Rattle.dmap_stream.specs.Walk.{at_payload, walk_from}
use Rattle.dmap_stream.proofs.Settled.{resumed_payload, due_payload}
use Rattle.dmap_stream.proofs.Takings.{waits, moves_same, takes_then, takes_then_fault, whole}
use Rattle.dmap_stream.proofs.Wholes.{payload_told, payload_quiet}
use Rattle.dmap_stream.proofs.position.Position.gather_payload.Goals as goal

pub returns-then-len-clause-takes : goal.returns-then-len-clause-takes
returns-then-len-clause-takes c =
    λ rows limit. let s = c.args.self.now in
    let new : Position = record { start = s.start; around = s.around; phase = s.phase; part = c.fill.new.self; ready = s.ready } in
    let less : length c.fill.new.self < c.args.len = omega arith in
    waits rows limit (at_payload (walk_from rows limit) s.start s.around c.args.code c.args.kind c.args.len) s.part c.args.piece.now c.args.len c.in_ok-taken.taken new
    c.in_ok-taken.ensures.took c.in_ok-taken.ensures.filled less
    (λ bytes few. payload_quiet (walk_from rows limit) s.start s.around c.args.code c.args.kind c.args.len bytes few) c.requires.quiet
    (due_payload new c.args.code c.args.kind c.args.len c.requires.payload c.requires.value less)
    (λ rest. resumed_payload rows limit new c.args.code c.args.kind c.args.len rest c.requires.payload c.requires.quiet)

pub returns-in_err-end_leaf-clause-takes : goal.returns-in_err-end_leaf-clause-takes
returns-in_err-end_leaf-clause-takes c =
    λ rows limit. let s = c.args.self.now in
    let p = err_from_is_err_and c.from_residual-in_err-end_leaf.result c.from_residual-in_err-end_leaf.ensures.1 in
    let full = whole s.part c.fill.new.self c.args.piece.now c.args.len c.in_ok-taken.taken c.in_ok-taken.ensures.took c.in_ok-taken.ensures.filled c.requires.within (omega arith) in
    let typed = c.in_ok-value.ensures ∙ ap (λ payload. value_of (leaf_at c.args.kind payload)) c.as_slice.ensures in
    rw (p.1, p.2)
    (takes_then_fault rows limit (at_payload (walk_from rows limit) s.start s.around c.args.code c.args.kind c.args.len) s.part c.fill.new.self c.args.piece.now c.in_ok-taken.taken c.end_leaf.new.self _ c.in_ok-taken.ensures.filled
    (moves_same rows limit _ _ c.end_leaf.new.self (Err c.in_err-end_leaf.field-0.0)
    (λ rest. payload_told (walk_from rows limit) s.start s.around c.args.code c.args.kind c.args.len c.fill.new.self rest c.in_ok-value.value typed full) (c.in_err-end_leaf.ensures.moves rows limit)))

pub returns-clause-takes : goal.returns-clause-takes
returns-clause-takes c =
    λ rows limit. let s = c.args.self.now in
    let full = whole s.part c.fill.new.self c.args.piece.now c.args.len c.in_ok-taken.taken c.in_ok-taken.ensures.took c.in_ok-taken.ensures.filled c.requires.within (omega arith) in
    let typed = c.in_ok-value.ensures ∙ ap (λ payload. value_of (leaf_at c.args.kind payload)) c.as_slice.ensures in
    takes_then rows limit (at_payload (walk_from rows limit) s.start s.around c.args.code c.args.kind c.args.len) s.part c.fill.new.self c.args.piece.now c.args.len c.in_ok-taken.taken c.end_leaf.new.self
    c.in_ok-taken.ensures.filled (omega (arith, c.in_ok-taken.ensures.took))
    (λ bytes few. payload_quiet (walk_from rows limit) s.start s.around c.args.code c.args.kind c.args.len bytes few) (omega (arith, c.in_ok-taken.ensures.took))
    (moves_same rows limit _ _ c.end_leaf.new.self (Ok tt)
    (λ rest. payload_told (walk_from rows limit) s.start s.around c.args.code c.args.kind c.args.len c.fill.new.self rest c.in_ok-value.value typed full) (c.in_ok-end_leaf.ensures.moves rows limit))
