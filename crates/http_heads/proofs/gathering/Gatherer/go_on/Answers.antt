use Rattle.std.proofs.Common.{◌∙◌, ap, ◌++◌, sym}
use Rattle.http_heads.specs.Gathering.{Gathered}
use Rattle.http_heads.proofs.Takings.{head_too_large}
use Rattle.http_heads.proofs.gathering.Gatherer.go_on.Goals as goal

pub returns-then-len-eq-HEAD_BYTES-clause-takes : goal.returns-then-len-eq-HEAD_BYTES-clause-takes
returns-then-len-eq-HEAD_BYTES-clause-takes c = λ other.
    head_too_large c.args.self.now
    (record { kind = c.self.inside.kind; message = record { head = c.extend.new.self; body = c.self.inside.body }; phase = c.self.inside.phase })
    c.args.sought.now c.args.scan c.requires.body
    (c.in_ok-extend.ensures.ok ∙ ap (λ (g : Gathered). g.message.head ++ c.args.sought.now) c.self.view_is)
    (ap (λ (g : Gathered). g.message.body) c.self.view_is)
    (sym c.len.ensures ∙ c.if-len-eq-HEAD_BYTES.true) c.requires.goes
