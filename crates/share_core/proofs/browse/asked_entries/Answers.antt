use Rattle.std.proofs.Common.{map, filter, ap, ◌∙◌}
use Rattle.share_history.specs.BrowseListings.{is_filled, sorted_texts, value_tag}
use Rattle.share_history.specs.Histories.{all_edits, batches}
use Rattle.share_core.specs.ValuesAt.{values_at}
use Rattle.share_core.proofs.Results.{if_ok}
use Rattle.share_core.proofs.ValuesAt.{values_found}
use Rattle.share_core.proofs.browse.asked_entries.Goals as goal

pub returns-clause-tags : goal.returns-clause-tags
returns-clause-tags g c =
    if_ok c.set_tags.result
    (λ tags told h held.
    told
    ∙ ap (map value_tag)
    (c.in_ok-texts.ensures.texts (batches h) held.stand.items ∙ ap (λ ids. sorted_texts (filter is_filled (values_at (all_edits h) c.args.by c.args.query.now ids))) c.as_slice.ensures.value
    ∙ values_found (all_edits h) c.args.by c.args.query.now c.in_ok-ids.ids.items (c.in_ok-ids.ensures.start h held)))
    c.set_tags.ensures
