-- The edits of a rehearsal. Three numbers make each: the first selects the item; the second drops it or names it; the
-- third selects its artist and its year.
use Rattle.std.specs.Prelude.{ℕ, ◌+◌, ◌*◌, ◌%◌, ◌==◌, List, [], ◌∷◌, ◌++◌, map, codes, decimal, if◌then◌else◌}
use Rattle.std.specs.List.{range_with_len}
use Rattle.item_model.specs.declared.changes.Edit.{Edit}
use Rattle.item_model.specs.declared.changes.Edit.TheVariants.{PutItem, DropItem}
use Rattle.item_model.specs.declared.item.Row.{Row}
use Rattle.item_model.specs.declared.item.PropValue.TheVariants.{Number, Text}
use Rattle.item_model.specs.declared.property.Property.TheVariants.{Minm, Asar, Asyr}
use Rattle.rehearsal.specs.Draws.{next, drawn, draw}

abbrev pub row_by : (id b c : ℕ) → Row
row_by id b c =
    record {
      id = id;
      item = (Minm, Text (codes "t" ++ decimal b)) ∷ (Asar, Text (codes "a" ++ decimal (c % 16))) ∷ (Asyr, Number (1950 + c % 80)) ∷ [];
    }

abbrev pub edit_of : (id b c : ℕ) → Edit
edit_of id b c = if b % 4 == 0 then DropItem id else PutItem (row_by id b c)

-- the edit made from three numbers
abbrev pub edit_by : (a b c : ℕ) → Edit
edit_by a b c = edit_of (1 + a % 4096) b c

-- the edit made from the three numbers after a state
abbrev pub edit_next : ℕ → Edit
edit_next x = edit_by (drawn (next x)) (drawn (next (next x))) (drawn (next (next (next x))))

-- the edit at an index, counted from 0 through all batches
abbrev pub edit_at : (number place : ℕ) → Edit
edit_at number place = edit_by (draw number (3 * place + 1)) (draw number (3 * place + 2)) (draw number (3 * place + 3))

-- `size` edits from an index on
abbrev pub edits_from : (number place size : ℕ) → List Edit
edits_from number place size = map (edit_at number) (range_with_len place size)

-- the batches, each of `size` edits; the indexes continue from batch to batch
abbrev pub rehearsed : (number batches size : ℕ) → List (List Edit)
rehearsed number batches size = map (λ n. edits_from number (n * size) size) (range_with_len 0 batches)
