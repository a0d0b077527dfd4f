use Rattle.std.proofs.Common.{◌∙◌, ap, unwrap_or}
use Rattle.share_replies.specs.Replies.{refusal, success}
use Rattle.share_core.proofs.Answered.{look_answer}
use Rattle.share_core.proofs.share.Share.look_up.Goals as goal

pub returns-clause-answered : goal.returns-clause-answered
returns-clause-answered g c =
    let old = c.args.self.now in
    look_answer _ _ c.args.by c.args.want.now c.unwrap_or-session.result c.read.result c.requires.read c.requires.going c.requires.live
    (c.unwrap_or-session.ensures ∙ ap (λ o. unwrap_or o 0) c.session_in.ensures)
    (c.read.ensures.read (unwrap_or (refusal old.history c.args.want.now) (success old.settings old.history c.args.want.now)) c.in_ok-content.ensures.content)
