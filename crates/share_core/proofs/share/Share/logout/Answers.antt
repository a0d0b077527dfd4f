use Rattle.std.proofs.Common.{subst, refl, ◌∙◌, ap}
use Rattle.item_model.specs.declared.changes.Entry.TheVariants.{Logout}
use Rattle.share_asks.specs.declared.ask.Want.TheVariants as want
use Rattle.share_core.specs.declared.answer.Answer.TheVariants as answer
use Rattle.share_core.specs.Told.{IsAnswer}
use Rattle.share_core.proofs.Answered.{logout_answer, grown_is, shared}
use Rattle.share_history.specs.Sessions.{is_live, is_stopped}
use Rattle.share_replies.specs.Answers.{Shared}
use Rattle.share_replies.specs.Replies.{Nothing}
use Rattle.share_history.proofs.WholeFacts.{whole_logout}
use Rattle.share_core.proofs.Sound.{sound_quiet}
use Rattle.share_core.proofs.share.Share.logout.Goals as goal

pub invariant_of-self : goal.invariant_of-self
invariant_of-self c =
    let a = c.self.inside in
    sound_quiet a.settings a.register.history c.log_out.new.register.history (Logout c.args.by c.args.session) a.stores c.log_out.ensures.history refl
    (whole_logout a.register.history c.args.by c.args.session c.self.invariant.whole) c.self.invariant

pub returns-clause-answered : goal.returns-clause-answered
returns-clause-answered c =
    let a = c.self.inside in
    let now = c.log_out.new.register in
    subst (λ old. IsAnswer old (shared a.settings now.history now.marks) c.args.by (want.Logout c.args.session) (answer.Reply c.log_out.result)) c.self.view_is
    (logout_answer (shared a.settings a.register.history a.register.marks) (shared a.settings now.history now.marks) c.args.by c.args.session c.log_out.result
    (ap (λ (s : Shared). is_stopped s.history) c.self.view_is ∙ c.requires.going) (ap (λ (s : Shared). is_live s.history c.args.session) c.self.view_is ∙ c.requires.live)
    (grown_is a.settings a.register.history now.history a.register.marks now.marks (Logout c.args.by c.args.session) c.nothing.result c.args.session _ c.log_out.result (204, Nothing)
    c.log_out.ensures.history c.log_out.ensures.marks refl c.log_out.ensures.reply c.nothing.ensures))
