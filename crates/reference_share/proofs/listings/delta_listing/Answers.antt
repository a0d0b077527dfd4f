-- The rows and the keys that were found are those of the delta.
use Rattle.std.proofs.Common.{◌∙◌, ap}
use Rattle.std.specs.Option.{option_copied}
use Rattle.share_history.specs.Histories.{batches, edits, all_edits}
use Rattle.share_history.proofs.EditFacts.{batches-at_revision}
use Rattle.reference_share.proofs.FoundFacts.{delta_found}
use Rattle.reference_share.proofs.listings.delta_listing.Goals as goal

pub returns : goal.returns
returns c =
    c.in_ok-delta.ensures
    ∙ delta_found (batches c.args.history.now) (all_edits c.at_revision-earlier.result.now) c.args.target c.args.look.now (option_copied c.as_ref-query.result) c.args.base c.revision.result
    c.in_ok-all.all.items c.as_slice.result.now c.in_ok-listed.listed.items c.as_slice-3.result.now c.in_ok-old.old.items c.as_slice-2.result.now c.in_ok-gone.gone.items
    c.revision.ensures c.as_ref-query.ensures.value (ap all_edits c.at_revision-earlier.ensures ∙ ap edits (batches-at_revision c.args.history.now c.args.base)) c.in_ok-all.ensures.rows
    c.as_slice.ensures.value c.in_ok-listed.ensures.rows c.as_slice-3.ensures.value c.in_ok-old.ensures.rows c.as_slice-2.ensures.value c.in_ok-gone.ensures
