-- Changes of rows: each id that changes has its new row, or none if it is dropped.
use Rattle.std.specs.Prelude.{◌≡◌, ℕ, List, [], ◌∷◌, Option, Some, unwrap_or, filter_map}
use Rattle.item_model.specs.declared.item.Row.{Row}
use Rattle.share_history.specs.Keyed.{at, IsAscending}

-- the row of an id after the changes
abbrev pub changed : List (ℕ × Option Row) → List (ℕ × Row) → ℕ → Option Row
changed changes rows id = unwrap_or (at id changes) (at id rows)

-- the new rows
abbrev pub new_rows : List (ℕ × Option Row) → List Row
new_rows changes = filter_map (λ change. change.1) changes

-- what the changes of a row's id leave of it
abbrev pub own_rows : Row → List (ℕ × Option Row) → List Row
own_rows row [] = row ∷ []
own_rows row (change ∷ changes) = new_rows (change ∷ changes)

-- the ids ascend, and each new row has the id under which it comes
pub record AreChanges (changes : List (ℕ × Option Row)) : Type 0 where
  pub ascending : IsAscending changes
  pub own : (id : ℕ) (row : Row) → at id changes ≡ Some (Some row) → row.id ≡ id
