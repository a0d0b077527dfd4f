use Rattle.std.proofs.Common.{true, Some, []}
use Rattle.reply_bytes.proofs.Cut.{cut_behind}
use Rattle.reply_bytes.specs.ReplyBytes.{with_head}
use Rattle.share_asks.specs.declared.form.BodyForm.TheVariants.{NoBody}
use Rattle.share_replay.specs.Ends.{end_line, reply_lines}
use Rattle.share_replay.specs.declared.ends.End.TheVariants.{Refused}
use Rattle.share_replay.proofs.Written.{cut_before}
use Rattle.share_replay.proofs.answering.refuse_on.Goals as goal

pub returns-in-Err-clause-part : goal.returns-in-Err-clause-part
returns-in-Err-clause-part g c = λ h.
    cut_before (reply_lines c.args.number (with_head c.args.status NoBody [] true)) (end_line c.args.number (Some (Refused c.args.status)))
    (g.W.Sink.taken c.args.sink.now) (g.W.Sink.taken c.tell_reply.new.sink) c.in-Err.ensures.part

pub returns-in-Err-tell_end-clause-part : goal.returns-in-Err-tell_end-clause-part
returns-in-Err-tell_end-clause-part g c = λ h.
    cut_behind (reply_lines c.args.number (with_head c.args.status NoBody [] true)) (end_line c.args.number (Some (Refused c.args.status)))
    (g.W.Sink.taken c.args.sink.now) (g.W.Sink.taken c.tell_reply.new.sink) (g.W.Sink.taken c.tell_end.new.sink) c.in-Ok.ensures.told c.in-Err-tell_end.ensures.part
