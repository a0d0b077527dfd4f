use Rattle.std.proofs.Common.{◌∙◌, sym, ap}
use Rattle.share_history.specs.Sessions.{is_stopped}
use Rattle.share_replies.specs.Answers.{Shared}
use Rattle.share_replies.specs.Replies.{Nothing}
use Rattle.share_core.proofs.Answered.{stopped_answer, lacking_answer}
use Rattle.share_core.proofs.share.Share.answer.Goals as goal

pub returns-then-is_stopped-clause-answered : goal.returns-then-is_stopped-clause-answered
returns-then-is_stopped-clause-answered g c =
    stopped_answer _ _ c.args.by c.args.ask.now.want c.read.result
    (sym (c.is_stopped.ensures ∙ ap (λ (s : Shared). is_stopped s.history) c.self.view_is) ∙ c.if-is_stopped.true) (c.read.ensures.read (503, Nothing) c.nothing.ensures)

pub returns-then-lacks_session-clause-answered : goal.returns-then-lacks_session-clause-answered
returns-then-lacks_session-clause-answered g c =
    lacking_answer _ _ c.args.by c.args.ask.now.want c.read-then-lacks_session.result
    (sym (c.is_stopped.ensures ∙ ap (λ (s : Shared). is_stopped s.history) c.self.view_is) ∙ c.if-is_stopped.false) (sym c.lacks_session.ensures ∙ c.if-lacks_session.true)
    (c.read-then-lacks_session.ensures.read (403, Nothing) c.nothing-then-lacks_session.ensures)
