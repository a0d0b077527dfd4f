use Rattle.std.proofs.Common.{rules, ◌≡◌, [], ◌++◌, ap, ◌∙◌}
use Rattle.dmap_stream.specs.Walk.{at_head, walk_from}
use Rattle.dmap_stream.proofs.Settled.{resumed_head, resumed_payload}
use Rattle.dmap_stream.proofs.Takings.{takes_same}
use Rattle.dmap_stream.proofs.position.Position.take.Goals as goal

pub returns-in-Head-clause-takes : goal.returns-in-Head-clause-takes
returns-in-Head-clause-takes c =
    let s = c.args.self.now in
    let empty : s.part ≡ [] = search rules in
    takes_same c.args.table.now c.args.top _ _ c.args.piece.now c.read_head.new.self c.read_head.result
    (λ rest.
    resumed_head c.args.table.now c.args.top s rest c.in-Head.is c.requires.quiet
    ∙ ap (λ l. at_head (walk_from c.args.table.now c.args.top) c.args.table.now c.args.top s.start s.around (l ++ rest)) empty) c.read_head.ensures.takes

pub returns-in-Head-2-clause-takes : goal.returns-in-Head-2-clause-takes
returns-in-Head-2-clause-takes c =
    takes_same c.args.table.now c.args.top _ _ c.args.piece.now c.gather_head.new.self c.gather_head.result
    (λ rest. resumed_head c.args.table.now c.args.top c.args.self.now rest c.in-Head-2.is c.requires.quiet) c.gather_head.ensures.takes

pub returns-in-Payload-clause-takes : goal.returns-in-Payload-clause-takes
returns-in-Payload-clause-takes c =
    takes_same c.args.table.now c.args.top _ _ c.args.piece.now c.gather_payload.new.self c.gather_payload.result
    (λ rest. resumed_payload c.args.table.now c.args.top c.args.self.now c.in-Payload.code c.in-Payload.kind c.in-Payload.len rest c.in-Payload.is c.requires.quiet) (c.gather_payload.ensures.takes c.args.table.now c.args.top)
