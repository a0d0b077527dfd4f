-- The rows on sheets, one sheet after another.
use Rattle.std.proofs.Common.{◌≡◌, ◌<◌, ◌+◌, ◌++◌, ℕ, List, [], ◌∷◌, length, take, get_or, sym, ap, ◌∙◌, append-nil, append_assoc, Option}
use Rattle.std.specs.declared.sync.Arc.{Arc}
use Rattle.std.proofs.lemmas.List.{map-append, take_more}
use Rattle.std.proofs.lemmas.List.Concat.{flat_map-append}
use Rattle.std.proofs.lemmas.List.Elements.{filter_map-append}
use Rattle.item_model.specs.declared.item.Row.{Row}
use Rattle.row_sheets.specs.Spelled.{Spelled}
use Rattle.row_sheets.specs.Sheets.{by_id, rows_on, rows_in}
use Rattle.row_sheets.specs.Changes.{new_rows}

pub ids_append : (a b : List Row) → by_id (a ++ b) ≡ by_id a ++ by_id b
ids_append a b = map-append (λ row. (row.id, row)) a b

pub in_append : {Z : Type 0} (a b : List (Arc Spelled Z)) → rows_in (a ++ b) ≡ rows_in a ++ rows_in b
in_append a b = flat_map-append rows_on a b

-- one sheet more
pub in_push : {Z : Type 0} (a : List (Arc Spelled Z)) (sheet : Arc Spelled Z) → rows_in (a ++ sheet ∷ []) ≡ rows_in a ++ rows_on sheet
in_push a sheet = in_append a (sheet ∷ []) ∙ ap (λ rows. rows_in a ++ rows) (append-nil (rows_on sheet))

pub in_more : {Z : Type 0} (sheets : List (Arc Spelled Z)) (i : ℕ) (d : Arc Spelled Z) → i < length sheets → rows_in (take (i + 1) sheets) ≡ rows_in (take i sheets) ++ rows_on (get_or sheets i d)
in_more sheets i d lt = ap rows_in (take_more sheets i d lt) ∙ in_push (take i sheets) (get_or sheets i d)

-- one change more
pub new_more : (old : List Row) (c : List (ℕ × Option Row)) (i : ℕ) (d : ℕ × Option Row) → i < length c → (old ++ new_rows (take i c)) ++ new_rows (get_or c i d ∷ []) ≡ old ++ new_rows (take (i + 1) c)
new_more old c i d lt =
    append_assoc old _ _
    ∙ ap (λ rows. old ++ rows) (sym (filter_map-append (λ change. change.1) (take i c) (get_or c i d ∷ [])) ∙ ap new_rows (sym (take_more c i d lt)))
