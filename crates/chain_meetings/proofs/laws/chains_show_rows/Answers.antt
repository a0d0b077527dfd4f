use Rattle.chain_meetings.proofs.RowsBehind.{chains_show_rows}
use Rattle.chain_meetings.proofs.laws.chains_show_rows.Goals as goal

pub returns : goal.returns
returns c = chains_show_rows
