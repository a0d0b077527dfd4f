-- The law is its lemma, with no further events.
use Rattle.std.proofs.Common.{◌∙◌, append-nil}
use Rattle.dmap_tags.specs.Tree.{trees_of}
use Rattle.dmap_show.proofs.EventLines.{all_events_show}
use Rattle.dmap_show.proofs.laws.events_show_their_tags.Goals as goal

pub returns : goal.returns
returns c = λ at ts. all_events_show 0 at (trees_of ts) _ ∙ append-nil _
