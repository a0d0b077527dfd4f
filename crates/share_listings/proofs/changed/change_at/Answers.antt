-- Both rows are those of the key, and they are compared by the properties that the look shows.
use Rattle.std.proofs.Common.{◌&&◌, is_some, is_none, ap, ◌∙◌}
use Rattle.std.specs.Option.{option_and_then}
use Rattle.share_history.specs.Histories.{edits, up_to}
use Rattle.share_history.specs.Listings.{member_of}
use Rattle.share_history.specs.Rows.{row_at}
use Rattle.share_listings.specs.Changes.{unless_shown}
use Rattle.share_listings.proofs.changed.change_at.Goals as goal

pub returns-clause-change : goal.returns-clause-change
returns-clause-change g c = λ bs target since.
    let look = c.args.look.now in
    let key = c.args.key in
    let was = c.row_then-was.ensures.row bs target since ∙ ap (λ q. row_at (edits (up_to bs look.base)) target q key) c.as_ref-query.ensures.value in
    let is = c.row_now-is.ensures.row bs target since.tells ∙ ap (λ q. row_at (edits bs) target q key) c.as_ref-query.ensures.value in
    record {
      listed = c.change_between.ensures.listed (member_of target key) ∙ (λ i. option_and_then (unless_shown (member_of target key) (c.requires.shown i) (was i)) (is i));
      deleted = c.change_between.ensures.deleted ∙ (λ i. is_none (is i) && is_some (was i));
    }
