use Rattle.prop_index.proofs.LoweredFacts.{lowered_front}
use Rattle.prop_index.proofs.lowered.Lowered.of.Goals as goal

pub invariant_of-result : goal.invariant_of-result
invariant_of-result c = (c.requires, lowered_front c.args.text.now c.lower_into.new.bytes _ c.utf8.text c.lower_into.ensures)
