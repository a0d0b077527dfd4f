use Rattle.std.proofs.Common.{◌≡◌, [], ◌++◌, length, Ok, Err, ap, subst, ◌∙◌, arith}
use Rattle.std.proofs.lemmas.List.{length-take}
use Rattle.std.proofs.lemmas.Result.{err_from_is_err_and}
use Rattle.dmap_stream.specs.Walk.{at_payload, walk_from}
use Rattle.dmap_stream.specs.Reading.{Takes}
use Rattle.dmap_stream.proofs.Takings.{moves_same, takes_then, takes_then_fault}
use Rattle.dmap_stream.proofs.Wholes.{payload_told, payload_quiet}
use Rattle.dmap_stream.proofs.position.Position.take_payload.Goals as goal

pub returns-then-piece-len-clause-takes : goal.returns-then-piece-len-clause-takes
returns-then-piece-len-clause-takes c =
    λ rows limit. let s = c.args.self.now in
    subst (λ l. Takes rows limit (λ rest. at_payload (walk_from rows limit) s.start s.around c.args.code c.args.kind c.args.len (l ++ rest)) c.args.piece.now c.gather_payload.new.self c.gather_payload.result)
    c.requires.empty (c.gather_payload.ensures.takes rows limit)

pub returns-in_err-end_leaf-clause-takes : goal.returns-in_err-end_leaf-clause-takes
returns-in_err-end_leaf-clause-takes c =
    λ rows limit. let s = c.args.self.now in
    let payload = c.split_at.result.0.now in
    let p = err_from_is_err_and c.from_residual-in_err-end_leaf.result c.from_residual-in_err-end_leaf.ensures.1 in
    let full : length payload ≡ c.args.len = ap length c.split_at.ensures.front ∙ length-take c.args.len c.args.piece.now ∙ (omega arith) in
    rw (p.1, p.2)
    (takes_then_fault rows limit (at_payload (walk_from rows limit) s.start s.around c.args.code c.args.kind c.args.len) [] payload c.args.piece.now c.args.len c.end_leaf.new.self _ c.split_at.ensures.front
    (moves_same rows limit _ _ c.end_leaf.new.self (Err c.in_err-end_leaf.field-0.0)
    (λ rest. payload_told (walk_from rows limit) s.start s.around c.args.code c.args.kind c.args.len payload rest c.in_ok-value.value c.in_ok-value.ensures full) (c.in_err-end_leaf.ensures.moves rows limit)))

pub returns-clause-takes : goal.returns-clause-takes
returns-clause-takes c =
    λ rows limit. let s = c.args.self.now in
    let payload = c.split_at.result.0.now in
    let full : length payload ≡ c.args.len = ap length c.split_at.ensures.front ∙ length-take c.args.len c.args.piece.now ∙ (omega arith) in
    takes_then rows limit (at_payload (walk_from rows limit) s.start s.around c.args.code c.args.kind c.args.len) [] payload c.args.piece.now c.args.len c.args.len c.end_leaf.new.self
    c.split_at.ensures.front (omega arith)
    (λ bytes few. payload_quiet (walk_from rows limit) s.start s.around c.args.code c.args.kind c.args.len bytes few) (omega arith)
    (moves_same rows limit _ _ c.end_leaf.new.self (Ok tt)
    (λ rest. payload_told (walk_from rows limit) s.start s.around c.args.code c.args.kind c.args.len payload rest c.in_ok-value.value c.in_ok-value.ensures full) (c.in_ok-end_leaf.ensures.moves rows limit))
