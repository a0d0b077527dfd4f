use Rattle.prop_index.proofs.LawFacts.{candidates_suffice}
use Rattle.prop_index.proofs.laws.candidates_suffice.Goals as goal

pub returns : goal.returns
returns c = candidates_suffice
