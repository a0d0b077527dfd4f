use Rattle.dmap_show.proofs.OneText.{one_text}
use Rattle.dmap_show.proofs.laws.a_text_shows_one_list_of_tags.Goals as goal

pub returns : goal.returns
returns c = one_text
