-- The tags of the earlier row and of the present one are compared.
use Rattle.std.proofs.Common.{not, Some, None, option_copied, sym, ap, ◌∙◌}
use Rattle.dmap_tags.specs.SameTags.{is_same_tag}
use Rattle.item_model.specs.Projection.{listed_row}
use Rattle.share_history.specs.Histories.{all_edits}
use Rattle.share_history.specs.Listings.{member_of}
use Rattle.reference_share.specs.RowSeen.{row_of}
use Rattle.reference_share.proofs.FoundFacts.{shown_then}
use Rattle.reference_share.proofs.listings.is_new.Goals as goal

pub returns-in_default : goal.returns-in_default
returns-in_default c =
    sym (ap not (shown_then (all_edits c.args.earlier.now) c.args.target (option_copied c.args.query) c.args.meta.now (row_of c.args.found) None c.in_default.ensures))

pub returns : goal.returns
returns c =
    let key = member_of c.args.target c.args.found.0 in
    ap not
    (c.is_shown_alike.ensures key
    ∙ ap (λ ps. is_same_tag (listed_row c.in-Some.old.now key ps) (listed_row c.args.found.1.now key ps)) (c.as_slice.ensures.shown ∙ c.of.ensures)
    ∙ sym (shown_then (all_edits c.args.earlier.now) c.args.target (option_copied c.args.query) c.args.meta.now (row_of c.args.found) (Some c.in-Some.old.now) c.in-Some.ensures))
