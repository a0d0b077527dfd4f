use Rattle.std.proofs.Common.{Some, ◌++◌, take, sym, ap, ◌∙◌}
use Rattle.dmap_stream.specs.Reader.{Reader}
use Rattle.dmap_stream.proofs.Readings.{fed_none, fed_after, went_on, went_no_further, stopped, told}
use Rattle.dmap_stream.proofs.reader.DmapReader.feed.Goals as goal

pub returns-in-Some-clause-read : goal.returns-in-Some-clause-read
returns-in-Some-clause-read c =
    λ fed handed h. fed_after fed c.args.piece.now handed c.args.self.now c.in-Some.error (ap (λ (r : Reader). r.error) (sym c.self.view_is) ∙ c.in-Some.is) h

pub returns-in-Some-clause-tells : goal.returns-in-Some-clause-tells
returns-in-Some-clause-tells c = λ fed handed h. told (fed ++ c.args.piece.now) handed c.args.self.now (returns-in-Some-clause-read c fed handed h)

pub returns-then-is_ready-clause-read : goal.returns-then-is_ready-clause-read
returns-then-is_ready-clause-read c = λ fed handed h. fed_none fed c.args.piece.now handed c.args.self.now h

pub returns-then-is_ready-clause-tells : goal.returns-then-is_ready-clause-tells
returns-then-is_ready-clause-tells c = λ fed handed h. told (fed ++ take 0 c.args.piece.now) handed c.args.self.now (returns-then-is_ready-clause-read c fed handed h)

pub returns-in-Ok-clause-read : goal.returns-in-Ok-clause-read
returns-in-Ok-clause-read c =
    λ fed handed h.
    went_on c.self.inside.table c.self.inside.limits.top fed c.args.piece.now handed c.args.self.now c.self.inside.position c.take.new.self c.self.inside.error c.in-Ok.taken
    c.in_default.is c.self.view_is (sym c.is_ready.ensures ∙ c.if-is_ready.false) c.in-Ok.ensures.takes c.in-Ok.ensures.count h

pub returns-in-Ok-clause-tells : goal.returns-in-Ok-clause-tells
returns-in-Ok-clause-tells c =
    let new : Reader = record { rows = c.self.inside.table; limit = c.self.inside.limits.top; position = c.take.new.self; error = c.self.inside.error } in
    λ fed handed h. told (fed ++ take c.in-Ok.taken c.args.piece.now) handed new (returns-in-Ok-clause-read c fed handed h)

pub returns-in-Ok-clause-no_further : goal.returns-in-Ok-clause-no_further
returns-in-Ok-clause-no_further c =
    λ fed handed h.
    went_no_further c.self.inside.table c.self.inside.limits.top fed c.args.piece.now handed c.args.self.now c.self.inside.position c.take.new.self c.self.inside.error c.in-Ok.taken
    c.in_default.is c.self.view_is (sym c.is_ready.ensures ∙ c.if-is_ready.false) c.in-Ok.ensures.takes h

pub returns-in-Err-clause-read : goal.returns-in-Err-clause-read
returns-in-Err-clause-read c =
    λ fed handed h.
    stopped c.self.inside.table c.self.inside.limits.top fed c.args.piece.now handed c.args.self.now c.self.inside.position c.take.new.self c.self.inside.error c.in-Err.error c.copy-in-Err.result
    c.in_default.is c.self.view_is (sym c.is_ready.ensures ∙ c.if-is_ready.false) c.in-Err.ensures.takes c.copy-in-Err.ensures h

pub returns-in-Err-clause-tells : goal.returns-in-Err-clause-tells
returns-in-Err-clause-tells c =
    let new : Reader = record { rows = c.self.inside.table; limit = c.self.inside.limits.top; position = c.take.new.self; error = Some c.copy-in-Err.result } in
    λ fed handed h. told (fed ++ c.args.piece.now) handed new (returns-in-Err-clause-read c fed handed h)
