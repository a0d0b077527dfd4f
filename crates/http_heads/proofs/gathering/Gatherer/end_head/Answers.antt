use Rattle.std.proofs.Common.{◌≡◌, ◌∙◌, ap, subst, subst₂, List, ℕ, take, ◌++◌, Err}
use Rattle.std.proofs.lemmas.Result.{err_from_is_err_and}
use Rattle.http_heads.specs.declared.kind.Kind.{Kind}
use Rattle.http_heads.specs.Gathering.{Gathered, TakesSome}
use Rattle.http_heads.specs.Heads.{Tells}
use Rattle.http_heads.proofs.Takings.{refused_head, took_both}
use Rattle.http_heads.proofs.gathering.Gatherer.end_head.Goals as goal

pub returns-in_err-told-clause-takes : goal.returns-in_err-told-clause-takes
returns-in_err-told-clause-takes c =
    let p = err_from_is_err_and c.from_residual-in_err-told.result c.from_residual-in_err-told.ensures.1 in
    let front : c.extend.new.self ≡ c.args.self.now.message.head ++ take c.args.n c.args.piece.now =
    c.in_ok-extend.ensures.ok ∙ ap (λ b. c.self.inside.head ++ b) c.split_at.ensures.front
    ∙ ap (λ (g : Gathered). g.message.head ++ take c.args.n c.args.piece.now) c.self.view_is in
    rw (p.1, p.2) (λ other.
    refused_head c.args.self.now
    (record { kind = c.self.inside.kind; message = record { head = c.extend.new.self; body = c.self.inside.body }; phase = c.self.inside.phase })
    c.args.piece.now c.args.n c.args.lines c.in_err-told.field-0.0 c.requires.within c.requires.body c.requires.framed c.requires.short front
    (ap (λ (g : Gathered). g.message.body) c.self.view_is)
    (subst₂ (λ (k : Kind) (b : List ℕ). Tells k b c.args.lines (Err c.in_err-told.field-0.0))
    (ap (λ (g : Gathered). g.kind) c.self.view_is) c.as_slice.ensures c.in_err-told.ensures))

pub returns-clause-takes : goal.returns-clause-takes
returns-clause-takes c =
    let mid : Gathered = record { kind = c.self.inside.kind; message = record { head = c.extend.new.self; body = c.self.inside.body }; phase = c.self.inside.phase } in
    took_both c.args.self.now mid c.take_body.new.self c.args.piece.now c.args.n c.in_ok-take_body.field-0 c.requires.within c.requires.body
    (c.in_ok-extend.ensures.ok ∙ ap (λ b. c.self.inside.head ++ b) c.split_at.ensures.front
    ∙ ap (λ (g : Gathered). g.message.head ++ take c.args.n c.args.piece.now) c.self.view_is)
    (ap (λ (g : Gathered). g.message.body) c.self.view_is)
    (subst (λ (p : List ℕ). TakesSome mid p c.take_body.new.self c.in_ok-take_body.field-0) c.split_at.ensures.back c.in_ok-take_body.ensures.takes)
