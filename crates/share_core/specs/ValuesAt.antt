-- The texts of the items `ids` that exist and match the query, in the order of `ids`.
use Rattle.std.specs.Prelude.{ℕ, List, Some, map}
use Rattle.item_model.specs.declared.query.Query.{Query}
use Rattle.item_model.specs.declared.changes.Edit.{Edit}
use Rattle.item_model.specs.declared.request.Browse.{Browse}
use Rattle.item_model.specs.declared.request.Target.TheVariants.{Items}
use Rattle.share_history.specs.Keyed.{pairs_at}
use Rattle.share_history.specs.Rows.{row_at}
use Rattle.prop_index.specs.Forms.{browse_text}

abbrev pub values_at : List Edit → Browse → Query → List ℕ → List (List ℕ)
values_at es browse query ids = map (λ row. browse_text browse row.1) (pairs_at (row_at es Items (Some query)) ids)
