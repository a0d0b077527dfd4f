use Rattle.std.proofs.Common.{refl, rules, subst}
use Rattle.share_asks.specs.declared.ask.Want.TheVariants as want
use Rattle.http_client.specs.Replies.{Reply}
use Rattle.http_client.specs.Requests.{request_text}
use Rattle.mirror_client.specs.Exchanges.{Exchanged}
use Rattle.mirror_client.specs.Points.{ReadAhead, nothing_read, place}
use Rattle.mirror_client.specs.Steps.{TellsTable, UnexpectedTable}
use Rattle.mirror_client.specs.Stopping.{Stops}
use Rattle.mirror_client.proofs.ExchangeFacts.{unwritten}
use Rattle.mirror_client.proofs.StepFacts.{fails_first, fails_second, opened}
use Rattle.mirror_client.proofs.follower.Follower.open.Goals as goal

pub returns-in-Err-clause-stops : goal.returns-in-Err-clause-stops
returns-in-Err-clause-stops g c =
    fails_first c.args.host.now (place (g.K.Sink.taken c.args.link.now) (g.K.Source.left c.args.link.now) nothing_read) (g.K.Sink.taken c.learn_table.new.link)
    c.in-Err.error
    (subst (λ (a : ReadAhead). Stops (request_text want.Codes c.args.host.now) UnexpectedTable (place (g.K.Sink.taken c.args.link.now) (g.K.Source.left c.args.link.now) a)
    (g.K.Sink.taken c.learn_table.new.link) c.in-Err.error) c.new-incoming.ensures c.in-Err.ensures.stops)

pub returns-in-Err-log_in-clause-stops : goal.returns-in-Err-log_in-clause-stops
returns-in-Err-log_in-clause-stops g c =
    fails_second c.args.host.now (place (g.K.Sink.taken c.args.link.now) (g.K.Source.left c.args.link.now) nothing_read)
    (place (g.K.Sink.taken c.learn_table.new.link) (g.K.Source.left c.learn_table.new.link) c.learn_table.new.incoming) c.in-Ok.table
    (g.K.Sink.taken c.log_in.new.link) c.in-Err-log_in.error
    (subst (λ (a : ReadAhead). (answer : Reply)
    × Exchanged (request_text want.Codes c.args.host.now) (place (g.K.Sink.taken c.args.link.now) (g.K.Source.left c.args.link.now) a)
    (place (g.K.Sink.taken c.learn_table.new.link) (g.K.Source.left c.learn_table.new.link) c.learn_table.new.incoming) answer
    × TellsTable answer c.in-Ok.table) c.new-incoming.ensures c.in-Ok.ensures.exchanged)
    c.in-Err-log_in.ensures.stops

pub returns-clause-opened : goal.returns-clause-opened
returns-clause-opened g c = (
  opened c.args.host.now (place (g.K.Sink.taken c.args.link.now) (g.K.Source.left c.args.link.now) nothing_read)
      (place (g.K.Sink.taken c.learn_table.new.link) (g.K.Source.left c.learn_table.new.link) c.learn_table.new.incoming)
      (place (g.K.Sink.taken c.log_in.new.link) (g.K.Source.left c.log_in.new.link) c.log_in.new.incoming) c.in-Ok-log_in.session c.in-Ok.table
      (subst (λ (a : ReadAhead). (answer : Reply)
      × Exchanged (request_text want.Codes c.args.host.now) (place (g.K.Sink.taken c.args.link.now) (g.K.Source.left c.args.link.now) a)
      (place (g.K.Sink.taken c.learn_table.new.link) (g.K.Source.left c.learn_table.new.link) c.learn_table.new.incoming) answer
      × TellsTable answer c.in-Ok.table) c.new-incoming.ensures c.in-Ok.ensures.exchanged)
      c.in-Ok-log_in.ensures.exchanged,
  c.in_ok-name.ensures,
  refl,
)

pub returns-in_err-name : goal.returns-in_err-name
returns-in_err-name g c = search (rules, unwritten)
