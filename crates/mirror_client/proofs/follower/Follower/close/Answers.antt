use Rattle.std.proofs.Common.{ℕ, List, ap, ap₂, ◌∙◌}
use Rattle.share_asks.specs.declared.ask.Want.TheVariants as want
use Rattle.http_client.specs.Requests.{request_text}
use Rattle.mirror_client.specs.Steps.{Following}
use Rattle.mirror_client.proofs.StepFacts.{closed}
use Rattle.mirror_client.proofs.follower.Follower.close.Goals as goal

pub returns-clause-exchanged : goal.returns-clause-exchanged
returns-clause-exchanged g c =
    closed (request_text (want.Logout c.self.inside.session) c.as_str.result.now) (request_text (want.Logout c.args.self.known.session) c.args.self.host)
    (g.K.Sink.taken c.args.link.now) (g.K.Source.left c.args.link.now)
    (g.K.Sink.taken c.log_out.new.link) (g.K.Source.left c.log_out.new.link) c.args.self.ahead c.self.inside.incoming c.log_out.new.incoming c.log_out.result
    (ap₂ (λ (s : ℕ) (h : List ℕ). request_text (want.Logout s) h) (ap (λ (f : Following). f.known.session) c.self.view_is)
    (c.as_str.ensures ∙ ap (λ (f : Following). f.host) c.self.view_is))
    (ap (λ (f : Following). f.ahead) c.self.view_is) c.log_out.ensures.exchanged
