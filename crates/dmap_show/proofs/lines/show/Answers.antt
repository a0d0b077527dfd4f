-- What is shown is readable if it fits.
use Rattle.std.proofs.Common.{rules}
use Rattle.dmap_show.proofs.Stands.{shallow_readable}
use Rattle.dmap_show.proofs.lines.show.Goals as goal

pub returns-clause-reads_back : goal.returns-clause-reads_back
returns-clause-reads_back c = λ rows fit. record { lines = search rules; each = shallow_readable rows c.args.tags.now c.in_ok-push_tags.ensures.held fit }
