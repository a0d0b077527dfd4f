use Rattle.std.proofs.Common.{◌∙◌, sym, ap, refl}
use Rattle.item_model.specs.declared.changes.Entry.TheVariants.{Login}
use Rattle.share_history.specs.Limits.{is_below_entry_limit}
use Rattle.share_history.proofs.WholeFacts.{whole_login}
use Rattle.share_replies.specs.Answers.{Shared}
use Rattle.share_replies.specs.Replies.{Nothing}
use Rattle.share_core.proofs.Answered.{login_refused}
use Rattle.share_core.proofs.Sound.{sound_quiet}
use Rattle.share_core.proofs.share.Share.login.Goals as goal

pub returns-then-not-is_below_entry_limit-clause-answered : goal.returns-then-not-is_below_entry_limit-clause-answered
returns-then-not-is_below_entry_limit-clause-answered c =
    login_refused _ _ c.args.by c.read.result c.requires.going
    (sym (c.is_below_entry_limit.ensures ∙ ap (λ (s : Shared). is_below_entry_limit s.history) c.self.view_is) ∙ c.if-not-is_below_entry_limit.true) (c.read.ensures.read (507, Nothing) c.nothing.ensures)

pub invariant_of-self-2 : goal.invariant_of-self-2
invariant_of-self-2 c =
    let a = c.self.inside in
    sound_quiet a.settings a.register.history c.log_in.new.register.history (Login c.args.by c.next_session-id.result) a.stores c.in_ok-reply.ensures.history refl
    (whole_login a.register.history c.args.by c.next_session-id.result (sym c.is_below_entry_limit.ensures ∙ c.if-not-is_below_entry_limit.false) c.self.invariant.whole) c.self.invariant
