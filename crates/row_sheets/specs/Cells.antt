-- The encoded tags of a sheet, row by row and within a row property by property, each with the offset at which it starts.
use Rattle.std.specs.Prelude.{◌≡◌, ℕ, ◌+◌, ◌-◌, ◌<◌, List, [], ◌∷◌, length, map, flat_map, slice_index_or, true, false, All, IfSome}
use Rattle.std.specs.List.{sum_by}
use Rattle.dmap_tags.specs.Spelling.{spellings}
use Rattle.dmap_tags.specs.Tree.{trees_of}
use Rattle.item_model.specs.declared.item.PropValue.{PropValue}
use Rattle.item_model.specs.declared.item.Row.{Row}
use Rattle.item_model.specs.declared.property.Property.{Property}
use Rattle.item_model.specs.Items.{value_of, is_value_of}
use Rattle.item_model.specs.Projection.{shown, mentions}
use Rattle.row_sheets.specs.Held.{held_properties}

-- the encoded tag of a property, which is empty if the item lacks it
abbrev pub cell : List (Property × PropValue) → Property → List ℕ
cell item p = spellings (trees_of (shown item (p ∷ [])))

-- the cells of a row, one for each property
abbrev pub row_cells : List Property → Row → List (List ℕ)
row_cells ps row = map (cell row.item) ps

abbrev pub cells_of : List Property → List Row → List (List ℕ)
cells_of ps rows = flat_map (row_cells ps) rows

-- the bytes of some cells, one after the other
abbrev pub joined : List (List ℕ) → List ℕ
joined cells = flat_map (λ c. c) cells

-- how many bytes some rows have of a property
abbrev pub column_length : List Row → Property → ℕ
column_length rows p = sum_by (λ row. length (cell row.item p)) rows

-- where each cell starts, and where the last one ends
abbrev pub starts_of : ℕ → List (List ℕ) → List ℕ
starts_of n [] = n ∷ []
starts_of n (c ∷ cs) = n ∷ starts_of (n + length c) cs

pub record AreCells (cells : List (List ℕ)) (bytes starts : List ℕ) : Type 0 where
  pub spelled : bytes ≡ joined cells
  pub begin : starts ≡ starts_of 0 cells

-- the row has no other property
abbrev pub HasNoOther : List Property → Row → Type 0
HasNoOther ps row = (p : Property) → mentions ps p ≡ false → cell row.item p ≡ []

-- what the item has of a property is of its kind and range
abbrev pub HasValue : List (Property × PropValue) → Property → Type 0
HasValue item p = IfSome (value_of p item) (λ v. is_value_of p v ≡ true)

abbrev pub HasValues : Row → Type 0
HasValues row = (p : Property) → HasValue row.item p

-- the last of the rows has this id
abbrev pub IsLast : List Row → ℕ → Type 0
IsLast rows last = (d : Row) → last ≡ (slice_index_or rows (length rows - 1) d).id

-- the ids of some rows
abbrev pub ids_of : List Row → List ℕ
ids_of rows = map (λ row. row.id) rows

-- what is true of each sheet: it has rows, its buffer has their cells, and it keeps their ids and the lengths of its columns
pub record IsSheet (ps : List Property) (rows : List Row) (bytes starts ids lens : List ℕ) : Type 0 where
  pub held : ps ≡ held_properties rows
  pub cells : AreCells (cells_of ps rows) bytes starts
  pub values : All HasValues rows
  pub some : 0 < length rows
  pub numbered : ids ≡ ids_of rows
  pub measured : lens ≡ map (column_length rows) ps
