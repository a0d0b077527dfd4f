use Rattle.std.proofs.Common.{map, ap, ◌∙◌}
use Rattle.share_history.specs.BrowseListings.{value_tag}
use Rattle.share_history.specs.Histories.{all_edits}
use Rattle.share_history.specs.Rows.{library}
use Rattle.share_history.proofs.RowFacts.{ascending-library}
use Rattle.share_core.proofs.Results.{if_ok}
use Rattle.share_core.proofs.browse.all_entries.Goals as goal

pub returns : goal.returns
returns c =
    if_ok c.text_tags.result
    (λ tags told h held. told ∙ ap (map value_tag) (c.as_slice.ensures ∙ c.in_ok-texts.ensures (library (all_edits h)) (ascending-library (all_edits h)) held.stand.index))
    c.text_tags.ensures
