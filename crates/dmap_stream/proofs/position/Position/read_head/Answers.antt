use Rattle.std.proofs.Common.{◌≡◌, [], length, Ok, Err, ap, ◌∙◌, arith}
use Rattle.std.proofs.lemmas.List.{length-take}
use Rattle.std.proofs.lemmas.Result.{err_from_is_err_and}
use Rattle.dmap_stream.specs.Walk.{at_head, walk_from}
use Rattle.dmap_stream.proofs.Heads.{IsHead, head_told}
use Rattle.dmap_stream.proofs.Takings.{takes_same, takes_more, takes_fault_later}
use Rattle.dmap_stream.proofs.Wholes.{head_quiet}
use Rattle.dmap_stream.proofs.position.Position.read_head.Goals as goal

pub returns-in_err-more-clause-takes : goal.returns-in_err-more-clause-takes
returns-in_err-more-clause-takes c =
    let s = c.args.self.now in
    let bytes = c.split_at.result.0.now in
    let full : length bytes ≡ 8 = ap length c.split_at.ensures.front ∙ length-take 8 c.args.piece.now ∙ (omega (arith, c.requires.there)) in
    let head : IsHead bytes c.head_of-code.result.0 c.head_of-code.result.1 = record { count = full; code = c.head_of-code.ensures.code; told = c.head_of-code.ensures.len } in
    let p = err_from_is_err_and c.from_residual.result c.from_residual.ensures.1 in
    rw (p.1, p.2)
    (takes_fault_later c.args.table.now c.args.top (at_head (walk_from c.args.table.now c.args.top) c.args.table.now c.args.top s.start s.around) [] bytes c.args.piece.now _ 8 c.enter.new.self _
    c.split_at.ensures.front c.split_at.ensures.back
    (takes_same c.args.table.now c.args.top _ _ _ c.enter.new.self (Err c.in_err-more.field-0.0)
    (λ rest. head_told (walk_from c.args.table.now c.args.top) c.args.table.now c.args.top s.start s.around bytes rest c.head_of-code.result.0 c.head_of-code.result.1 head) c.in_err-more.ensures.takes))

pub returns-clause-takes : goal.returns-clause-takes
returns-clause-takes c =
    let s = c.args.self.now in
    let bytes = c.split_at.result.0.now in
    let full : length bytes ≡ 8 = ap length c.split_at.ensures.front ∙ length-take 8 c.args.piece.now ∙ (omega (arith, c.requires.there)) in
    let head : IsHead bytes c.head_of-code.result.0 c.head_of-code.result.1 = record { count = full; code = c.head_of-code.ensures.code; told = c.head_of-code.ensures.len } in
    takes_more c.args.table.now c.args.top (at_head (walk_from c.args.table.now c.args.top) c.args.table.now c.args.top s.start s.around) [] bytes c.args.piece.now _ 8 8 c.in_ok-more.more c.enter.new.self
    c.split_at.ensures.front c.split_at.ensures.back c.requires.there
    (λ bytes few. head_quiet (walk_from c.args.table.now c.args.top) c.args.table.now c.args.top s.start s.around bytes few) (omega arith)
    (takes_same c.args.table.now c.args.top _ _ _ c.enter.new.self (Ok c.in_ok-more.more)
    (λ rest. head_told (walk_from c.args.table.now c.args.top) c.args.table.now c.args.top s.start s.around bytes rest c.head_of-code.result.0 c.head_of-code.result.1 head) c.in_ok-more.ensures.takes)
