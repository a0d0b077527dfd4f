use Rattle.tag_commands.proofs.Showing.{showing_first}
use Rattle.tag_commands.proofs.show.Shower.new.Goals as goal

pub returns-clause-showing : goal.returns-clause-showing
returns-clause-showing c = showing_first (record { counter = c.in_ok-new.field-0; lines = c.new-2.result }) c.in_ok-new.ensures c.new-2.ensures.items
