use Rattle.std.proofs.Common.{ℕ, Some, refl, subst, ◌∙◌, rules}
use Rattle.mirror_client.specs.Points.{nothing_read, place}
use Rattle.mirror_client.specs.Pushes.{UnexpectedEdit, push_text}
use Rattle.mirror_client.proofs.ExchangeFacts.{unexpected_stops, unwritten}
use Rattle.mirror_client.proofs.PushFacts.{asked_as, stopped_as}
use Rattle.mirror_client.proofs.pushing.push_edit.Goals as goal

pub returns-in-Ok-edit_outcome-clause-pushed : goal.returns-in-Ok-edit_outcome-clause-pushed
unfolding push_text
returns-in-Ok-edit_outcome-clause-pushed g c = (
  (c.in-Ok.status, c.in-Ok.text),
  place (g.K.Sink.taken c.exchange.new.link) (g.K.Source.left c.exchange.new.link) c.exchange.new.incoming,
  asked_as c.as_slice.result.now (push_text (Some c.args.records.now) c.args.host.now)
      (g.K.Sink.taken c.args.link.now) (g.K.Source.left c.args.link.now) c.new-incoming.result
      (place (g.K.Sink.taken c.exchange.new.link) (g.K.Source.left c.exchange.new.link) c.exchange.new.incoming)
      (c.in-Ok.status, c.in-Ok.text) (c.as_slice.ensures ∙ c.in_ok-request.ensures) c.new-incoming.ensures c.in-Ok.ensures.exchanged,
  refl,
  c.in-Ok-edit_outcome.ensures,
)

pub returns-in-Ok-clause-stops : goal.returns-in-Ok-clause-stops
unfolding push_text
returns-in-Ok-clause-stops g c =
    unexpected_stops (push_text (Some c.args.records.now) c.args.host.now) UnexpectedEdit (place (g.K.Sink.taken c.args.link.now) (g.K.Source.left c.args.link.now) nothing_read)
    (place (g.K.Sink.taken c.exchange.new.link) (g.K.Source.left c.exchange.new.link) c.exchange.new.incoming)
    (c.in-Ok.status, c.in-Ok.text) c.in-Err-edit_outcome.error
    (asked_as c.as_slice.result.now (push_text (Some c.args.records.now) c.args.host.now)
    (g.K.Sink.taken c.args.link.now) (g.K.Source.left c.args.link.now) c.new-incoming.result
    (place (g.K.Sink.taken c.exchange.new.link) (g.K.Source.left c.exchange.new.link) c.exchange.new.incoming)
    (c.in-Ok.status, c.in-Ok.text) (c.as_slice.ensures ∙ c.in_ok-request.ensures) c.new-incoming.ensures c.in-Ok.ensures.exchanged)
    (subst (λ (n : ℕ). UnexpectedEdit n (c.in-Ok.status, c.in-Ok.text) c.in-Err-edit_outcome.error) c.used_count.ensures c.in-Err-edit_outcome.ensures)

pub returns-clause-stops : goal.returns-clause-stops
unfolding push_text
returns-clause-stops g c =
    stopped_as c.as_slice.result.now (push_text (Some c.args.records.now) c.args.host.now) UnexpectedEdit (g.K.Sink.taken c.args.link.now) (g.K.Source.left c.args.link.now) (g.K.Sink.taken c.exchange.new.link)
    c.new-incoming.result c.in-Err.error (c.as_slice.ensures ∙ c.in_ok-request.ensures) c.new-incoming.ensures c.in-Err.ensures.stops

pub returns-in_err-request : goal.returns-in_err-request
returns-in_err-request g c = search (rules, unwritten)

pub returns-in_err-table : goal.returns-in_err-table
returns-in_err-table g c = search (rules, unwritten)
