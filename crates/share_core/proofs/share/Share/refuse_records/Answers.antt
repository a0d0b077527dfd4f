use Rattle.fault_lines.specs.Records.{records_line}
use Rattle.share_replies.specs.Replies.{Line}
use Rattle.share_core.proofs.Answered.{records_answer}
use Rattle.share_core.proofs.share.Share.refuse_records.Goals as goal

pub returns-clause-answered : goal.returns-clause-answered
returns-clause-answered c =
    records_answer _ _ c.args.by c.args.error.now c.read.result c.requires.going (c.read.ensures.read (400, Line (records_line c.args.error.now)) c.in_ok-content.ensures)
