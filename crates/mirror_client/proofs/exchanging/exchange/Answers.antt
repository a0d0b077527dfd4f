use Rattle.std.proofs.Common.{sym, ◌∙◌}
use Rattle.mirror_client.proofs.ExchangeFacts.{exchange_err}
use Rattle.mirror_client.proofs.exchanging.exchange.Goals as goal

-- what was written is the request, and the bytes that are owed stay
pub returns-in-Ok-clause-stops : goal.returns-in-Ok-clause-stops
returns-in-Ok-clause-stops g c =
    exchange_err c.args.request.now (g.K.Sink.taken c.args.link.now) (g.K.Sink.taken c.put_all.new.sink) (g.K.Sink.taken c.next_reply.new.link)
    (g.K.Source.left c.args.link.now) (g.K.Source.left c.put_all.new.sink) c.args.incoming.now.unused c.args.incoming.now.used c.next_reply.result
    c.in-Ok.ensures.all
    (sym (g.met.K.Link.write_leaves_left c.put_all.new.sink) ∙ c.put_all.ensures.beside ∙ g.met.K.Link.write_leaves_left c.args.link.now)
    c.next_reply.ensures.taken c.next_reply.ensures.cause
