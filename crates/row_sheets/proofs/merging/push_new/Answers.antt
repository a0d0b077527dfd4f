use Rattle.std.proofs.Common.{◌++◌, [], ◌∷◌, take, ap, ◌∙◌}
use Rattle.row_sheets.specs.Changes.{new_rows}
use Rattle.row_sheets.proofs.SheetFacts.{new_more}
use Rattle.row_sheets.proofs.merging.push_new.Goals as goal

pub loop-change-preserved : goal.loop-change-preserved
loop-change-preserved c =
    c.in_ok-push_if_new.ensures ∙ ap (λ rows. rows ++ new_rows (c.change-item.result ∷ [])) c.loop-change.invariant
    ∙ ap (λ change. (c.args.merged.now.items ++ new_rows (take c.loop-change.change-index c.args.changes.now)) ++ new_rows (change ∷ [])) c.change-item.is
    ∙ new_more c.args.merged.now.items c.args.changes.now c.loop-change.change-index c.change-item.result c.loop-change-test.true
