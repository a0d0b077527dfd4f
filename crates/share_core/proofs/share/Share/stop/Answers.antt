use Rattle.std.proofs.Common.{subst, refl, ◌∙◌, ap}
use Rattle.item_model.specs.declared.changes.Entry.TheVariants.{Stop}
use Rattle.share_asks.specs.declared.ask.Want.TheVariants as want
use Rattle.share_core.specs.declared.answer.Answer.TheVariants as answer
use Rattle.share_core.specs.Told.{IsAnswer}
use Rattle.share_core.proofs.Answered.{stop_answer, grown_is, shared}
use Rattle.share_history.specs.Sessions.{is_stopped}
use Rattle.share_replies.specs.Answers.{Shared}
use Rattle.share_replies.specs.Replies.{Nothing}
use Rattle.share_history.proofs.WholeFacts.{whole_stop}
use Rattle.share_core.proofs.Sound.{sound_quiet}
use Rattle.share_core.proofs.share.Share.stop.Goals as goal

pub invariant_of-self : goal.invariant_of-self
invariant_of-self c =
    let a = c.self.inside in
    sound_quiet a.settings a.register.history c.end.new.register.history (Stop c.args.by) a.stores c.end.ensures.history refl
    (whole_stop a.register.history c.args.by c.self.invariant.whole) c.self.invariant

pub returns-clause-answered : goal.returns-clause-answered
returns-clause-answered c =
    let a = c.self.inside in
    let now = c.end.new.register in
    subst (λ old. IsAnswer old (shared a.settings now.history now.marks) c.args.by want.Stop (answer.Reply c.end.result)) c.self.view_is
    (stop_answer (shared a.settings a.register.history a.register.marks) (shared a.settings now.history now.marks) c.args.by c.end.result
    (ap (λ (s : Shared). is_stopped s.history) c.self.view_is ∙ c.requires.going)
    (grown_is a.settings a.register.history now.history a.register.marks now.marks (Stop c.args.by) c.nothing.result 0 _ c.end.result (204, Nothing)
    c.end.ensures.history c.end.ensures.marks refl c.end.ensures.reply c.nothing.ensures))
