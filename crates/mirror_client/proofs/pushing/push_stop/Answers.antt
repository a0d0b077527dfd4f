use Rattle.std.proofs.Common.{None, refl, ◌∙◌, rules}
use Rattle.mirror_client.specs.Points.{place}
use Rattle.mirror_client.specs.Pushes.{UnexpectedPush, push_text}
use Rattle.mirror_client.proofs.ExchangeFacts.{unwritten}
use Rattle.mirror_client.proofs.PushFacts.{asked_as, stopped_as}
use Rattle.mirror_client.proofs.pushing.push_stop.Goals as goal

pub returns-in-Ok-clause-pushed : goal.returns-in-Ok-clause-pushed
unfolding push_text
returns-in-Ok-clause-pushed g c = (
  (c.in-Ok.status, c.in-Ok.text),
  place (g.K.Sink.taken c.exchange.new.link) (g.K.Source.left c.exchange.new.link) c.exchange.new.incoming,
  asked_as c.as_slice.result.now (push_text None c.args.host.now)
      (g.K.Sink.taken c.args.link.now) (g.K.Source.left c.args.link.now) c.new-incoming.result
      (place (g.K.Sink.taken c.exchange.new.link) (g.K.Source.left c.exchange.new.link) c.exchange.new.incoming)
      (c.in-Ok.status, c.in-Ok.text) (c.as_slice.ensures ∙ c.in_ok-request.ensures) c.new-incoming.ensures c.in-Ok.ensures.exchanged,
  refl,
  c.stop_outcome.ensures,
)

pub returns-clause-stops : goal.returns-clause-stops
unfolding push_text
returns-clause-stops g c =
    stopped_as c.as_slice.result.now (push_text None c.args.host.now) (UnexpectedPush None) (g.K.Sink.taken c.args.link.now) (g.K.Source.left c.args.link.now) (g.K.Sink.taken c.exchange.new.link)
    c.new-incoming.result c.in-Err.error (c.as_slice.ensures ∙ c.in_ok-request.ensures) c.new-incoming.ensures c.in-Err.ensures.stops

pub returns-in_err-request : goal.returns-in_err-request
returns-in_err-request g c = search (rules, unwritten)
