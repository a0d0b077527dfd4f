use Rattle.std.proofs.Common.{◌≡◌, ◌<◌, ◌-◌, ◌∙◌, ap, length, min, take, arith}
use Rattle.std.proofs.lemmas.List.{length-take}
use Rattle.http_heads.specs.Limits.{head_limit}
use Rattle.http_heads.specs.Gathering.{Gathered}
use Rattle.http_heads.specs.Scanning.{start}
use Rattle.http_heads.specs.declared.gathering.Phase.TheVariants.{Frame}
use Rattle.http_heads.proofs.Scans.{after_both, full_within}
use Rattle.http_heads.proofs.Takings.{at_phase, ended, went_on}
use Rattle.http_heads.proofs.gathering.Gatherer.take_head.Goals as goal

pub find_end-requires : goal.find_end-requires
find_end-requires c =
    let at = at_phase c.args.self.now (Frame c.args.scan) c.requires.at c.requires.phase in
    let full = full_within start c.args.scan c.args.self.now.message.head at.0 in
    let short : length c.args.self.now.message.head < head_limit = at.1 in
    let bound : length (take c.min.result c.args.piece.now) ≡ min c.min.result (length c.args.piece.now) = length-take c.min.result c.args.piece.now in
    omega (arith, full, short, bound, ap length c.split_at.ensures.front, c.min.ensures)

pub end_head-requires-clause-framed : goal.end_head-requires-clause-framed
end_head-requires-clause-framed c =
    let at = at_phase c.args.self.now (Frame c.args.scan) c.requires.at c.requires.phase in
    ended c.args.self.now.message.head c.args.piece.now c.split_at.result.0.now c.min.result c.in-Some.n c.args.scan c.find_end.new.self at.0
    c.split_at.ensures.front c.in-Some.ensures.within.0 c.in-Some.ensures.within.1 c.in-Some.ensures.front c.in-Some.ensures.end

pub go_on-requires-clause-goes : goal.go_on-requires-clause-goes
go_on-requires-clause-goes c =
    let at = at_phase c.args.self.now (Frame c.args.scan) c.requires.at c.requires.phase in
    after_both start c.args.scan c.args.self.now.message.head c.split_at.result.0.now at.0 ∙ c.in-None.ensures.none

pub returns-in-None-clause-takes : goal.returns-in-None-clause-takes
returns-in-None-clause-takes c =
    let at = at_phase c.args.self.now (Frame c.args.scan) c.requires.at c.requires.phase in
    went_on c.args.self.now c.args.piece.now c.split_at.result.0.now c.min.result c.go_on.new.self c.go_on.result c.split_at.ensures.front
    (c.min.ensures ∙ ap (λ k. min (head_limit - k) (length c.args.piece.now)) (c.len-room.ensures ∙ ap (λ (g : Gathered). length g.message.head) c.self.view_is))
    at.1 at.2 c.go_on.ensures.all
    c.go_on.ensures.takes
