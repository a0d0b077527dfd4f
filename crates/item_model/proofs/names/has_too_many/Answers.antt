use Rattle.item_model.proofs.Parts.{too_many_parts}
use Rattle.item_model.proofs.names.has_too_many.Goals as goal

pub returns : goal.returns
returns c = too_many_parts c.args.text.now c.commas.result c.commas.ensures
