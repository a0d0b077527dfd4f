-- A listing of all properties has no key besides the id.
use Rattle.std.proofs.Common.{◌≡◌, false, Some, None, sym, ap, ◌∙◌}
use Rattle.std.specs.Option.{option_map_or}
use Rattle.share_history.specs.Keyed.{at}
use Rattle.relayed_rows.specs.Differences.{is_same_row}
use Rattle.relayed_rows.proofs.edits.has_row.Goals as goal

pub returns-in-Some : goal.returns-in-Some
returns-in-Some c =
    let found : at c.args.id c.args.held.now.entries ≡ Some c.in-Some.old.now = sym c.in-Some.ensures.value in
    c.is_shown_alike.ensures None
    ∙ (λ i. is_same_row (c.row.ensures i) (c.row-in-Some.ensures i))
    ∙ ap (λ o. option_map_or (λ old. is_same_row old c.args.row.now) o false) (sym found)
