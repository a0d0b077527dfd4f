use Rattle.std.proofs.Common.{◌<◌, ◌+◌, ◌∷◌, [], ◌++◌, length, ap, subst, sym, ◌∙◌, arith}
use Rattle.share_history.specs.Histories.{batches, revision}
use Rattle.share_history.specs.Limits.{takes_batch}
use Rattle.share_history.proofs.EditFacts.{revision_more}
use Rattle.share_replies.specs.Answers.{Shared}
use Rattle.share_replies.specs.Replies.{Nothing, Tagged}
use Rattle.share_replies.specs.SmallBodies.{revision_body}
use Rattle.share_core.specs.Contents.{IsContent}
use Rattle.share_core.proofs.Answered.{no_edits, edits_refused, edits_answer, nothing_in}
use Rattle.share_core.proofs.Sound.{few_next}
use Rattle.share_core.proofs.share.Share.edit.Goals as goal

pub returns-then-count-eq0-clause-answered : goal.returns-then-count-eq0-clause-answered
returns-then-count-eq0-clause-answered g c =
    no_edits _ _ c.args.by c.args.batch.now c.read.result c.requires.going (nothing_in c.args.batch.now (sym c.count_of-count.ensures ∙ c.if-count-eq0.true)) (c.read.ensures.read (204, Nothing) c.nothing.ensures)

pub returns-then-not-takes-clause-answered : goal.returns-then-not-takes-clause-answered
returns-then-not-takes-clause-answered g c =
    edits_refused _ _ c.args.by c.args.batch.now c.read-then-not-takes.result c.requires.going (omega (arith, c.count_of-count.ensures, c.if-count-eq0.false)) (sym c.in_ok-takes.ensures ∙ c.if-not-takes.true)
    (c.read-then-not-takes.ensures.read (507, Nothing) c.nothing-then-not-takes.ensures)

pub overflow_add-next : goal.overflow_add-next
overflow_add-next g c =
    omega (arith, few_next c.self.inside.register.history c.args.batch.now (ap (λ (s : Shared). takes_batch s.history c.args.batch.now) c.self.view_is ∙ (sym c.in_ok-takes.ensures ∙ c.if-not-takes.false)), c.revision-revision.ensures)

pub returns-clause-answered : goal.returns-clause-answered
returns-clause-answered g c =
    let takes = sym c.in_ok-takes.ensures ∙ c.if-not-takes.false in
    let now = c.revision-revision.ensures ∙ ap (λ (s : Shared). revision (batches s.history)) c.self.view_is in
    edits_answer _ _ c.args.by c.args.batch.now c.in_ok-reply.reply c.requires.going (omega (arith, c.count_of-count.ensures, c.if-count-eq0.false)) takes
    (c.in_ok-reply.ensures.grown (200, Tagged (revision_body (revision (batches c.args.self.now.history ++ c.args.batch.now ∷ []))))
    (subst (λ n. IsContent (200, Tagged (revision_body n)) c.in_ok-content.content) (ap (λ n. n + 1) now ∙ sym (revision_more (batches c.args.self.now.history) c.args.batch.now)) c.in_ok-content.ensures))
