use Rattle.std.proofs.Common.{Ok, Err, sym, ◌∙◌}
use Rattle.std.proofs.lemmas.Result.{err_from_is_err_and}
use Rattle.dmap_stream.specs.Walk.{walk_from}
use Rattle.dmap_stream.proofs.Heads.{refused, behind_list, behind_value}
use Rattle.dmap_stream.proofs.Takings.{takes_same, takes_none, takes_fault}
use Rattle.dmap_stream.proofs.position.Position.enter.Goals as goal

pub returns-in-Some-clause-takes : goal.returns-in-Some-clause-takes
returns-in-Some-clause-takes c =
    let s = c.args.self.now in
    refused c.args.table.now c.args.top s.start s.around c.args.piece.now c.args.code c.args.len s c.in-Some.error c.in-Some.ensures c.requires.quiet

pub returns-in_err-open_list-clause-takes : goal.returns-in_err-open_list-clause-takes
returns-in_err-open_list-clause-takes c =
    let s = c.args.self.now in
    let p = err_from_is_err_and c.from_residual.result c.from_residual.ensures.1 in
    let fails = takes_fault c.args.table.now c.args.top _ c.args.piece.now c.open_list.new.self c.in_err-open_list.field-0.0 (c.in_err-open_list.ensures.moves c.args.table.now c.args.top) in
    rw (p.1, p.2)
    (takes_same c.args.table.now c.args.top _ _ c.args.piece.now c.open_list.new.self (Err c.in_err-open_list.field-0.0)
    (λ rest. behind_list (walk_from c.args.table.now c.args.top) c.args.table.now c.args.top s.start s.around rest c.args.code c.args.len c.parent.result c.kind_of-kind.result c.in_default.ensures c.parent.ensures c.kind_of-kind.ensures (sym c.is_list.ensures ∙ c.if-is_list.true))
    fails)

pub returns-then-is_list-clause-takes : goal.returns-then-is_list-clause-takes
returns-then-is_list-clause-takes c =
    let s = c.args.self.now in
    takes_same c.args.table.now c.args.top _ _ c.args.piece.now c.open_list.new.self (Ok 0)
    (λ rest. behind_list (walk_from c.args.table.now c.args.top) c.args.table.now c.args.top s.start s.around rest c.args.code c.args.len c.parent.result c.kind_of-kind.result c.in_default.ensures c.parent.ensures c.kind_of-kind.ensures (sym c.is_list.ensures ∙ c.if-is_list.true))
    (takes_none c.args.table.now c.args.top _ c.args.piece.now c.open_list.new.self (c.in_ok-open_list.ensures.moves c.args.table.now c.args.top))

pub returns-clause-takes : goal.returns-clause-takes
returns-clause-takes c =
    let s = c.args.self.now in
    takes_same c.args.table.now c.args.top _ _ c.args.piece.now c.take_payload.new.self c.take_payload.result
    (λ rest. behind_value (walk_from c.args.table.now c.args.top) c.args.table.now c.args.top s.start s.around rest c.args.code c.args.len c.parent.result c.kind_of-kind.result c.in_default.ensures c.parent.ensures c.kind_of-kind.ensures (sym c.is_list.ensures ∙ c.if-is_list.false))
    (c.take_payload.ensures.takes c.args.table.now c.args.top)
