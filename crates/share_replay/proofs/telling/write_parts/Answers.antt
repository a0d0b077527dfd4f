use Rattle.std.proofs.Common.{◌++◌, ◌∷◌, []}
use Rattle.listing_plan.specs.Plans.{plan_bytes}
use Rattle.reply_bytes.proofs.Cut.{failed_behind}
use Rattle.share_replay.proofs.telling.write_parts.Goals as goal

pub returns-clause-part : goal.returns-clause-part
returns-clause-part g c =
    failed_behind c.args.front.now (plan_bytes c.args.body.now ++ 10 ∷ []) c.write_body.result (g.W.Sink.taken c.args.sink.now) (g.W.Sink.taken c.put_all.new.sink)
    (g.W.Sink.taken c.write_body.new.sink) c.in_ok-put_all.ensures.all c.write_body.ensures.part
