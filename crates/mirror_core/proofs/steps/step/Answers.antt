-- Each function does the step of its expected member.
use Rattle.std.proofs.Common.{sym, ap, ◌∙◌}
use Rattle.mirror_core.specs.Reading.{step}
use Rattle.mirror_core.specs.ToldSeen.{told_of}
use Rattle.mirror_core.proofs.steps.step.Goals as goal

pub returns-in-Status : goal.returns-in-Status
returns-in-Status c = c.status.ensures c.args.target c.args.base ∙ ap (λ due. step c.args.target c.args.base due (told_of c.args.told) c.args.member.now) (sym c.in-Status.is)

pub returns-in-Kind : goal.returns-in-Kind
returns-in-Kind c = c.kind.ensures c.args.target ∙ ap (λ due. step c.args.target c.args.base due (told_of c.args.told) c.args.member.now) (sym c.in-Kind.is)

pub returns-in-Revision : goal.returns-in-Revision
returns-in-Revision c = c.revision.ensures c.args.target c.args.base ∙ ap (λ due. step c.args.target c.args.base due (told_of c.args.told) c.args.member.now) (sym c.in-Revision.is)

pub returns-in-Total : goal.returns-in-Total
returns-in-Total c = c.total.ensures c.args.target c.args.base ∙ ap (λ due. step c.args.target c.args.base due (told_of c.args.told) c.args.member.now) (sym c.in-Total.is)

pub returns-in-Listed : goal.returns-in-Listed
returns-in-Listed c = c.listed.ensures c.args.target c.args.base ∙ ap (λ due. step c.args.target c.args.base due (told_of c.args.told) c.args.member.now) (sym c.in-Listed.is)

pub returns-in-Rows : goal.returns-in-Rows
returns-in-Rows c = c.rows.ensures c.args.base ∙ ap (λ due. step c.args.target c.args.base due (told_of c.args.told) c.args.member.now) (sym c.in-Rows.is)

pub returns-in-Gone : goal.returns-in-Gone
returns-in-Gone c = c.gone.ensures c.args.base ∙ ap (λ due. step c.args.target c.args.base due (told_of c.args.told) c.args.member.now) (sym c.in-Gone.is)
