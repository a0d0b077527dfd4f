use Rattle.std.proofs.Common.{map, ap, ◌∙◌}
use Rattle.share_history.specs.Histories.{edits}
use Rattle.share_history.specs.LastSaid.{item_at}
use Rattle.share_core.proofs.Results.{if_ok}
use Rattle.share_core.proofs.changes.rows_before.Goals as goal

pub returns : goal.returns
returns c =
    if_ok c.rows_of.result (λ rows told bs stands. told bs stands ∙ ap (map (λ id. (id, item_at (edits bs) id))) c.in_ok-ids.ensures) c.rows_of.ensures
