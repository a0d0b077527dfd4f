use Rattle.link_commands.proofs.RowFacts.{row_more}
use Rattle.link_commands.proofs.shown.rows_tag.Goals as goal

pub loop-n-preserved : goal.loop-n-preserved
loop-n-preserved c =
    let more = c.in_ok-push_row.ensures in
    row_more c.args.mirror.now.held.rows c.loop-n.n more.0 c.loop-n.rows c.push_row.new.rows more.1 c.loop-n.invariant more.2
