use Rattle.std.proofs.Common.{◌∙◌, ℕ, sym, ap, subst, ne_eqb}
use Rattle.share_history.specs.Histories.{batches, revision}
use Rattle.share_replies.specs.Answers.{Shared}
use Rattle.share_replies.specs.Replies.{Tagged}
use Rattle.share_replies.specs.SmallBodies.{revision_body}
use Rattle.share_core.specs.Steps.{IsRead}
use Rattle.share_core.proofs.Answered.{update_answer}
use Rattle.share_core.proofs.share.Share.update.Goals as goal

pub returns-clause-answered : goal.returns-clause-answered
returns-clause-answered c =
    let now = c.revision-revision.ensures ∙ ap (λ (s : Shared). revision (batches s.history)) c.self.view_is in
    update_answer c.args.self.now c.read.new.self c.args.by c.args.session c.args.number c.read.result c.requires.going c.requires.live
    (ne_eqb c.args.number (revision (batches c.args.self.now.history)) (λ e. c.if-number-revision.false (e ∙ sym now)))
    (subst (λ (n : ℕ). IsRead (200, Tagged (revision_body n)) c.args.session c.args.self.now c.read.new.self c.read.result) now
    (c.read.ensures.read (200, Tagged (revision_body c.revision-revision.result)) c.in_ok-content.ensures))
