use Rattle.std.proofs.Common.{arith}
use Rattle.listing_plan.proofs.Spelled.{spellable_short, payload_length}
use Rattle.listing_plan.proofs.tags.value_len.Goals as goal

pub overflow_cast-result : goal.overflow_cast-result
overflow_cast-result c =
    omega (arith, spellable_short c.args.tag.now c.requires, payload_length c.args.tag.now, c.tag_len.ensures)
