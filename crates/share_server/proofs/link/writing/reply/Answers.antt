use Rattle.std.proofs.Common.{Option, is_some, sym, subst}
use Rattle.share_core.specs.declared.answer.ReplyContent.{ReplyContent}
use Rattle.share_server.specs.Written.{WasWritten, said_bytes}
use Rattle.share_server.proofs.link.writing.reply.Goals as goal

pub returns-in-None-clause-written : goal.returns-in-None-clause-written
returns-in-None-clause-written g c =
    subst
    (λ (o : Option ReplyContent). WasWritten (said_bytes o (is_some c.args.due)) c.args.added c.args.due (g.K.Sink.taken c.args.link.now) (g.K.Sink.taken c.write_500.new.link) c.write_500.result)
    (sym c.in-None.is)
    (c.write_500.ensures.written c.args.added)
