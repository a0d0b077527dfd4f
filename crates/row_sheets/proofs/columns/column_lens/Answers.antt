use Rattle.std.proofs.Common.{◌++◌, [], ◌∷◌, map, take, sym, ap, ◌∙◌}
use Rattle.std.proofs.lemmas.List.{map_more}
use Rattle.item_model.specs.declared.property.Property.TheVariants.{Minm}
use Rattle.row_sheets.specs.Cells.{column_length}
use Rattle.row_sheets.proofs.columns.column_lens.Goals as goal

pub loop-index-preserved : goal.loop-index-preserved
loop-index-preserved c =
    let rows = c.args.rows.now in
    let ps = c.args.properties.now in
    let i = c.loop-index.index in
    c.in_ok-push.ensures.items ∙ ap (λ lens. lens ++ c.in_ok-column_len.field-0 ∷ []) c.loop-index.invariant
    ∙ ap (λ n. map (column_length rows) (take i ps) ++ n ∷ []) (c.in_ok-column_len.ensures Minm) ∙ sym (map_more (column_length rows) ps i Minm c.loop-index-test.true)
