use Rattle.std.proofs.Common.{◌-◌, ◌∙◌, ap, length, min, take, ◌++◌}
use Rattle.http_heads.specs.Gathering.{Gathered, phase_behind}
use Rattle.http_heads.proofs.Takings.{took_body}
use Rattle.http_heads.proofs.gathering.Gatherer.take_body.Goals as goal

pub returns-clause-takes : goal.returns-clause-takes
returns-clause-takes c =
    took_body c.args.self.now
    (record { kind = c.self.inside.kind; message = record { head = c.self.inside.head; body = c.extend.new.self }; phase = c.phase_behind-self-inside.result })
    c.args.piece.now c.args.told c.min-missing.result c.requires.head c.requires.within
    (c.min-missing.ensures
    ∙ ap (λ k. min (c.args.told - k) (length c.args.piece.now)) (c.len.ensures ∙ ap (λ (g : Gathered). length g.message.body) c.self.view_is))
    (ap (λ (g : Gathered). g.kind) c.self.view_is) (ap (λ (g : Gathered). g.message.head) c.self.view_is)
    (c.in_ok-extend.ensures.ok ∙ ap (λ b. c.self.inside.body ++ b) c.split_at.ensures.front
    ∙ ap (λ (g : Gathered). g.message.body ++ take c.min-missing.result c.args.piece.now) c.self.view_is)
    (c.phase_behind-self-inside.ensures ∙ ap (phase_behind c.args.told) c.len-2.ensures)
