-- What follows for listings and browse listings. Each fact here is proved for all libraries.
use Rattle.std.specs.Prelude.{◌≡◌, ℕ, List, filter, Option, Some, None}
use Rattle.std.specs.List.{list_any}
use Rattle.item_model.specs.declared.changes.Edit.{Edit}
use Rattle.item_model.specs.declared.item.Row.{Row}
use Rattle.item_model.specs.declared.query.Query.{Query}
use Rattle.item_model.specs.declared.request.Browse.{Browse}
use Rattle.item_model.specs.QuerySeen.{tree_of}
use Rattle.share_history.specs.Rows.{is_selected, library}
use Rattle.share_history.specs.BrowseListings.{browse_values}
use Rattle.prop_index.specs.Forms.{spelled, finds}
use Rattle.prop_index.specs.Candidates.{needed_text, is_candidate}

-- a listing that starts from the candidates is the listing of all that a query asks for
abbrev pub CandidatesSuffice : Type 0
CandidatesSuffice =
    (rows : List (ℕ × Row)) (query : Query) (text : Browse × List ℕ) → needed_text (tree_of query) ≡ Some text
    → filter (λ row. is_selected (Some query) row.1) rows ≡ filter (λ row. is_selected (Some query) row.1) (filter (λ row. is_candidate text row.1) rows)

-- the values that a query leaves are those of which it asks for an item
abbrev pub ValuesByTheirItems : Type 0
ValuesByTheirItems =
    (es : List Edit) (browse : Browse) (query : Option Query)
    → browse_values es browse query
    ≡ filter (λ value. list_any (λ row. is_selected query row.1) (filter (λ row. finds spelled browse value row.1) (library es))) (browse_values es browse None)
