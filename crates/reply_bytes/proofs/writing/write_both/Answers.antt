use Rattle.listing_plan.specs.Plans.{plan_bytes}
use Rattle.reply_bytes.proofs.Cut.{failed_behind}
use Rattle.reply_bytes.proofs.writing.write_both.Goals as goal

pub returns-clause-part : goal.returns-clause-part
returns-clause-part g c =
    failed_behind c.args.head.now (plan_bytes c.args.body.now) c.write.result (g.W.Sink.taken c.args.sink.now) (g.W.Sink.taken c.put_all.new.sink)
    (g.W.Sink.taken c.write.new.sink) c.in_ok-put_all.ensures.all c.write.ensures.part
