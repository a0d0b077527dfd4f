-- A prefix of the spaces of 32 levels.
use Rattle.std.proofs.Common.{IsAscii, sym, ◌∙◌, subst}
use Rattle.dmap_show.proofs.EventLines.{indent_front, indent_ascii}
use Rattle.dmap_show.proofs.adding.spaces.Goals as goal

pub returns-clause-shown : goal.returns-clause-shown
returns-clause-shown c = c.split_at.ensures.front ∙ indent_front c.args.level 32 c.requires

pub returns-clause-ascii : goal.returns-clause-ascii
returns-clause-ascii c = subst IsAscii (sym (returns-clause-shown c)) (indent_ascii c.args.level)
