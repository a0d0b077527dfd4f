-- The values by which a library is browsed.
use Rattle.std.specs.Prelude.{ℕ, List, map, filter}
use Rattle.item_model.specs.declared.item.Row.{Row}
use Rattle.item_model.specs.declared.request.Browse.{Browse}
use Rattle.share_history.specs.BrowseListings.{is_filled, sorted_texts}
use Rattle.prop_index.specs.Forms.{browse_text}

-- the texts of a property, as they are spelled, each once and none empty, in the order of their bytes
abbrev pub values_in : Browse → List (ℕ × Row) → List (List ℕ)
values_in browse rows = sorted_texts (filter is_filled (map (λ row. browse_text browse row.1) rows))
