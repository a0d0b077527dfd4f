use Rattle.dmap_show.proofs.Once.{shown_once}
use Rattle.dmap_show.proofs.laws.shown_texts_are_not_refused.Goals as goal

pub returns : goal.returns
returns c = shown_once
